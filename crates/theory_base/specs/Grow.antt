-- What a move adds to a good node: the child's inherited values, the left side's synthesized values, the conditions tested.
use Rattle.std.specs.Prelude.{ℕ, suc, ◌+◌, ◌-◌, ◌≤◌, ◌≡◌, refl, Bool, true, false, List, [], ◌∷◌, ◌++◌, get_or, length, drop, T, eqb, ℤ, pos}
use Rattle.std.proofs.Common.{arith, sym, ap, ◌∙◌, subst, ext_get_or, eqb→eq}
use Rattle.std.proofs.lemmas.List.{length-replicate}
use Rattle.std.proofs.Math.Dec.{eqb_refl}
use Rattle.meaning.specs.Base.{all, In}
use Rattle.meaning.specs.Grammar.{Symbol, terminal, nonterminal, Occurrence, Rule, Production, Grammar, inh, syn, added_for, marked_for, symbol_at, condition_position, Condition, map_function, map_condition, conditions_at}
use Rattle.meaning.specs.Value.{apply, holds, in_range, mark}
use Rattle.meaning.specs.Scheme.{inherited_rules, synthesized_rules, tests_after, select_inherited, select_after, syn_between}
use Rattle.meaning.specs.Machine.{read_register, write_all}
use Rattle.meaning.specs.Tree.{Tree}
use Rattle.meaning.specs.Rules.{OutputAt}
use Rattle.meaning.specs.Part.{marks, syns_of, value_in, Lefts, Front, Tested, Handed, Results}
use Rattle.meaning.specs.Selectors.{occurrence}
use Rattle.theory_base.specs.Members.{keep_in, all_in, in_map}
use Rattle.theory_base.specs.WellFormed.{Evaluable}
use Rattle.theory_base.specs.Agree.{operands_map, apply_agree, apply_map, reads_map, holds_agree, holds_map, reads_available}
use Rattle.theory_base.specs.Selectors.{past, length_syns, found_after, found_inherited}
use Rattle.theory_base.specs.Evaluations.{inherited_made, SynthesizedMade, synthesized_made}
use Rattle.theory_base.specs.Values.{drop_head, drop_over, lefts_length, operands_available}

-- ---- evaluate the inherited attributes of the child at hand

pub record Hand (g : Grammar) (p : Production) (vs : List ℤ) (ts : List Tree) (x : Symbol) (rest : List ℤ) : Type 0 where
  pub made : List ℤ
  pub handed : Handed g p vs ts x made
  pub registers : write_all (inherited_rules g p (suc (length ts))) (marks (added_for g x) ++ rest) (marks (added_for g x) ++ rest) ≡ (made ++ marks (marked_for g x)) ++ rest

-- what a rule for the child's inherited attributes computes of the registers
pub value_inherited : (g : Grammar) (p : Production) → Evaluable g p → (vs : List ℤ) (ts : List Tree) (x : Symbol) (xs : List Symbol) (base : List ℤ) → Front g p vs ts → drop (length ts) p.right ≡ x ∷ xs → (r : Rule Occurrence) → In r p.rules → r.target.position ≡ suc (length ts)
    → apply (read_register (marks (added_for g x) ++ (syns_of g ts ++ (vs ++ base)))) (map_function (select_inherited g p (suc (length ts))) r.function) ≡ apply (value_in vs ts) r.function
value_inherited g p fp vs ts x xs base f d r i e =
    let n : ℕ = suc (length ts) in
    let old : List ℤ = marks (added_for g x) ++ (syns_of g ts ++ (vs ++ base)) in
    let size : length (marks (added_for g x)) ≡ added_for g (symbol_at p n) = length-replicate (added_for g x) mark ∙ rw (drop_head (length ts) p.right x (terminal 0) xs d).1 refl in
    let available = operands_available g p fp (length ts) r i (omega arith) (λ z. absurd (omega arith)) in
    apply_map (read_register old) (select_inherited g p n) r.function
    ∙ apply_agree (λ o. read_register old (select_inherited g p n o)) (value_in vs ts) r.function
    (operands_map (λ o u. found_inherited g p ts f.lefts vs base (marks (added_for g x)) f.sized size o u) r.function available)

pub hand : (g : Grammar) (p : Production) → Evaluable g p → (vs : List ℤ) (ts : List Tree) (x : Symbol) (xs : List Symbol) (base : List ℤ) → Front g p vs ts → drop (length ts) p.right ≡ x ∷ xs
    → T (all (λ r. in_range (apply (read_register (marks (added_for g x) ++ (syns_of g ts ++ (vs ++ base)))) r.function)) (inherited_rules g p (suc (length ts))))
    → Hand g p vs ts x (syns_of g ts ++ (vs ++ base))
hand g p fp vs ts x xs base f d t =
    let w = inherited_made g p fp (length ts) x xs (syns_of g ts ++ (vs ++ base)) d t in
    record {
      made = w.made;
      handed = record { sized = w.sized; ranged = w.ranged; rules = λ r i e. w.rules r i e ∙ value_inherited g p fp vs ts x xs base f d r i e };
      registers = w.registers;
    }

-- ---- evaluate the left side's synthesized attributes

pub record Close (g : Grammar) (p : Production) (vs : List ℤ) (ts : List Tree) (base : List ℤ) : Type 0 where
  pub made : List ℤ
  pub results : Results g p vs ts made
  pub registers : write_all (synthesized_rules g p) (syns_of g ts ++ (vs ++ (marks (syn g (nonterminal p.left)) ++ base))) (syns_of g ts ++ (vs ++ (marks (syn g (nonterminal p.left)) ++ base))) ≡ syns_of g ts ++ (vs ++ (made ++ base))

all_left : (g : Grammar) (p : Production) (ts : List Tree) → Lefts g p ts → drop (length ts) p.right ≡ [] → length p.right ≡ length ts
all_left g p ts w d = omega (arith, drop_over (length ts) p.right d, lefts_length g p ts w)

pub value_synthesized : (g : Grammar) (p : Production) → Evaluable g p → (vs : List ℤ) (ts : List Tree) (base : List ℤ) → Front g p vs ts → drop (length ts) p.right ≡ [] → (r : Rule Occurrence) → In r p.rules → r.target.position ≡ 0
    → apply (read_register (syns_of g ts ++ (vs ++ base))) (map_function (select_after g p (length p.right)) r.function) ≡ apply (value_in vs ts) r.function
value_synthesized g p fp vs ts base f d r i e =
    let old : List ℤ = syns_of g ts ++ (vs ++ base) in
    let sel : Occurrence → ℕ = select_after g p (length p.right) in
    let same : length p.right ≡ length ts = all_left g p ts f.lefts d in
    let available = operands_available g p fp (length ts) r i (omega arith) (λ z. omega (arith, same)) in
    apply_map (read_register old) sel r.function
    ∙ apply_agree (λ o. read_register old (sel o)) (value_in vs ts) r.function
    (operands_map (λ o u. subst (λ m. read_register old (select_after g p m o) ≡ value_in vs ts o) (sym same) (found_after g p ts f.lefts vs base f.sized o u)) r.function available)

pub close : (g : Grammar) (p : Production) → Evaluable g p → (vs : List ℤ) (ts : List Tree) (base : List ℤ) → Front g p vs ts → drop (length ts) p.right ≡ []
    → T (all (λ r. in_range (apply (read_register (syns_of g ts ++ (vs ++ (marks (syn g (nonterminal p.left)) ++ base)))) r.function)) (synthesized_rules g p))
    → Close g p vs ts base
close g p fp vs ts base f d t = record {
  made = w.made;
  results = record { sized = w.sized; ranged = w.ranged; rules = λ r i e. found r i e ∙ (w.rules r i e ∙ value_synthesized g p fp vs ts (marks (syn g (nonterminal p.left)) ++ base) f d r i e) };
  registers = w.registers;
}
  where
    h : ℕ
    h = inh g (nonterminal p.left)

    w : SynthesizedMade g p (syns_of g ts) vs base
    w = synthesized_made g p fp vs (syns_of g ts) base f.sized (length_syns g p ts f.lefts ∙ ap (syn_between g p 0) (sym (all_left g p ts f.lefts d))) t

    found : (r : Rule Occurrence) → In r p.rules → r.target.position ≡ 0 → get_or (vs ++ w.made) (r.target.attribute - 1) (pos 0) ≡ get_or w.made (r.target.attribute - 1 - h) (pos 0)
    found r i e =
        let o : OutputAt g p 0 r.target.attribute = rw e at (fp.targets r i) in
        let z : r.target.attribute - 1 ≡ h + (r.target.attribute - 1 - h) = omega (arith, o.0) in
        ap (λ m. get_or (vs ++ w.made) m (pos 0)) z ∙ past vs w.made h (r.target.attribute - 1 - h) (pos 0) f.sized

-- ---- test the conditions of the latest child, or at entry those of the left side

pub test_value : (g : Grammar) (p : Production) → Evaluable g p → (vs : List ℤ) (ts : List Tree) (base : List ℤ) → length vs ≡ inh g (nonterminal p.left) → Lefts g p ts → (c : Condition Occurrence) → In c p.conditions → condition_position c ≡ length ts
    → holds (read_register (syns_of g ts ++ (vs ++ base))) (map_condition (select_after g p (length ts)) c) ≡ holds (value_in vs ts) c
test_value g p fp vs ts base s w c i q =
    let old : List ℤ = syns_of g ts ++ (vs ++ base) in
    holds_map (read_register old) (select_after g p (length ts)) c ∙ holds_agree (λ o. read_register old (select_after g p (length ts) o)) (value_in vs ts) c (reads_map (λ o v. found_after g p ts w vs base s o v) c (reads_available g p (length ts) c (omega arith) (fp.reads c i)))

pub passed : (g : Grammar) (p : Production) → Evaluable g p → (vs : List ℤ) (ts : List Tree) (base : List ℤ) → length vs ≡ inh g (nonterminal p.left) → Lefts g p ts → Tested p vs ts (length ts)
    → T (all (holds (read_register (syns_of g ts ++ (vs ++ base)))) (tests_after g p (length ts)))
    → Tested p vs ts (suc (length ts))
passed g p fp vs ts base s w h t c i l = go (eqb (condition_position c) (length ts)) refl
  where
    old : List ℤ
    old = syns_of g ts ++ (vs ++ base)

    go : (b : Bool) → eqb (condition_position c) (length ts) ≡ b → T (holds (value_in vs ts) c)
    go true e =
        let q : condition_position c ≡ length ts = eqb→eq _ _ (rw e tt) in
        let j : In c (conditions_at p (length ts)) = keep_in (λ a. eqb (condition_position a) (length ts)) p.conditions c i (rw e tt) in
        let u = all_in (holds (read_register old)) (tests_after g p (length ts)) t (map_condition (select_after g p (length ts)) c) (in_map (map_condition (select_after g p (length ts))) (conditions_at p (length ts)) c j) in
        subst T (test_value g p fp vs ts base s w c i q) u
    go false e =
        let n : T (eqb (condition_position c) (length ts)) → ⊥ = λ u. rw e at u in
        let z : condition_position c ≡ length ts → ⊥ = λ u. n (rw u (eqb_refl (length ts))) in
        h c i (omega arith)

-- ---- the rules leave no choice

pub handed_one : (g : Grammar) (p : Production) → Evaluable g p → (vs : List ℤ) (ts : List Tree) (x : Symbol) (xs : List Symbol) (is js : List ℤ) → drop (length ts) p.right ≡ x ∷ xs → Handed g p vs ts x is → Handed g p vs ts x js → is ≡ js
handed_one g p fp vs ts x xs is js d a b =
    let k = drop_head (length ts) p.right x (terminal 0) xs d in
    ext_get_or (pos 0) is js (a.sized ∙ sym b.sized)
    (λ j l.
    let l' : suc j ≤ inh g x = omega (arith, a.sized) in
    let e = fp.every (occurrence (suc (length ts)) (suc j)) (k.0, omega arith, rw k.1 l') in
    let at : e.0.target.position ≡ suc (length ts) = ap (λ o. o.position) e.2 in
    let cell : e.0.target.attribute - 1 ≡ j = ap (λ o. o.attribute - 1) e.2 ∙ omega arith in
    subst (λ z. get_or is z (pos 0) ≡ get_or js z (pos 0)) cell (a.rules e.0 e.1 at ∙ sym (b.rules e.0 e.1 at)))

pub results_one : (g : Grammar) (p : Production) → Evaluable g p → (vs : List ℤ) (ts : List Tree) (ss us : List ℤ) → length vs ≡ inh g (nonterminal p.left) → Results g p vs ts ss → Results g p vs ts us → ss ≡ us
results_one g p fp vs ts ss us s a b =
    ext_get_or (pos 0) ss us (a.sized ∙ sym b.sized)
    (λ j l.
    let h : ℕ = inh g (nonterminal p.left) in
    let e = fp.every (occurrence 0 (h + suc j)) (omega arith, omega (arith, a.sized)) in
    let at : e.0.target.position ≡ 0 = ap (λ o. o.position) e.2 in
    let cell : e.0.target.attribute - 1 ≡ h + j = ap (λ o. o.attribute - 1) e.2 ∙ omega arith in
    sym (past vs ss h j (pos 0) s) ∙ (subst (λ z. get_or (vs ++ ss) z (pos 0) ≡ get_or (vs ++ us) z (pos 0)) cell (a.rules e.0 e.1 at ∙ sym (b.rules e.0 e.1 at)) ∙ past vs us h j (pos 0) s))
