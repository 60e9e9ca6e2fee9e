-- What an evaluate writes, whatever lies below: the inherited values of the symbol at hand, and the left side's synthesized ones.
use Rattle.std.specs.Prelude.{ℕ, suc, ◌+◌, ◌-◌, ◌≤◌, ◌<◌, ◌≡◌, List, [], ◌∷◌, ◌++◌, get_or, length, drop, T, eqb, ℤ, pos}
use Rattle.std.proofs.Common.{arith, sym, ap, ◌∙◌, append_assoc, length-append}
use Rattle.std.proofs.lemmas.List.{replicate-append-replicate}
use Rattle.meaning.specs.Base.{all, In}
use Rattle.meaning.specs.Grammar.{Symbol, terminal, nonterminal, Occurrence, Rule, Production, Grammar, inh, syn, added_for, marked_for, map_function}
use Rattle.meaning.specs.Value.{apply, in_range, mark}
use Rattle.meaning.specs.Scheme.{rules_for, inherited_rules, synthesized_rules, select_inherited, select_after, syn_between}
use Rattle.meaning.specs.Machine.{read_register, write_all}
use Rattle.meaning.specs.Rules.{OutputAt}
use Rattle.meaning.specs.Selectors.{occurrence}
use Rattle.meaning.specs.Part.{marks}
use Rattle.theory_base.specs.WellFormed.{Evaluable}
use Rattle.theory_base.specs.Selectors.{target_of_inherited, target_of_synthesized}
use Rattle.theory_base.specs.Present.{for_in, in_for}
use Rattle.theory_base.specs.Evaluate.{Written, written, distinct_keep}
use Rattle.theory_base.specs.Values.{drop_head}

pub occ_eq : (o u : Occurrence) → o.position ≡ u.position → o.attribute ≡ u.attribute → o ≡ u
occ_eq o u e f = λ i. record { position = e i; attribute = f i }

-- ---- the inherited attributes of the symbol at hand, of which k are passed

pub record InheritedMade (g : Grammar) (p : Production) (k : ℕ) (x : Symbol) (rest : List ℤ) : Type 0 where
  pub made : List ℤ
  pub sized : length made ≡ inh g x
  pub ranged : T (all in_range made)
  pub rules : (r : Rule Occurrence) → In r p.rules → r.target.position ≡ suc k → get_or made (r.target.attribute - 1) (pos 0) ≡ apply (read_register (marks (added_for g x) ++ rest)) (map_function (select_inherited g p (suc k)) r.function)
  pub registers : write_all (inherited_rules g p (suc k)) (marks (added_for g x) ++ rest) (marks (added_for g x) ++ rest) ≡ (made ++ marks (marked_for g x)) ++ rest

pub inherited_made : (g : Grammar) (p : Production) → Evaluable g p → (k : ℕ) (x : Symbol) (xs : List Symbol) (rest : List ℤ) → drop k p.right ≡ x ∷ xs
    → T (all (λ r. in_range (apply (read_register (marks (added_for g x) ++ rest)) r.function)) (inherited_rules g p (suc k)))
    → InheritedMade g p k x rest
inherited_made g p fp k x xs rest d t = record {
  made = w.made;
  sized = w.sized;
  ranged = w.ranged;
  rules = λ r i e. w.rules r (for_in p n r i e);
  registers = ap (λ z. write_all (inherited_rules g p n) old z) split ∙ (w.registers ∙ sym (append_assoc w.made (marks (marked_for g x)) rest));
}
  where
    n : ℕ
    n = suc k

    old : List ℤ
    old = marks (added_for g x) ++ rest

    slot : Occurrence → ℕ
    slot o = o.attribute - 1

    head : (k < length p.right) × (get_or p.right k (terminal 0) ≡ x) × (drop (suc k) p.right ≡ xs)
    head = drop_head k p.right x (terminal 0) xs d

    split : old ≡ marks (inh g x) ++ (marks (marked_for g x) ++ rest)
    split = rw (← (replicate-append-replicate (inh g x) (marked_for g x) mark)) (append_assoc (marks (inh g x)) (marks (marked_for g x)) rest)

    out : (r : Rule Occurrence) → In r (rules_for p n) → (r.target.position ≡ n) × (1 ≤ r.target.attribute) × (r.target.attribute ≤ inh g x)
    out r i =
        let h = in_for p n r i in
        let o : OutputAt g p n r.target.attribute = rw h.0 at (fp.targets r h.1) in
        (h.0, o.1, rw head.1 at o.2)

    w : Written slot (select_inherited g p n) old (rules_for p n) (inh g x) [] (marks (marked_for g x) ++ rest)
    w = written slot (select_inherited g p n) old (rules_for p n) (inh g x) [] (marks (marked_for g x) ++ rest)
        (distinct_keep (λ q. eqb q.target.position n) p.rules fp.distinct)
        (λ q r i j e. let a = out q i in let b = out r j in occ_eq q.target r.target (a.0 ∙ sym b.0) (omega arith))
        (λ r i. let a = out r i in (omega (arith, target_of_inherited g p n r.target a.0, a.1), omega arith))
        (λ j l. let e = fp.every (occurrence n (suc j)) (head.0, omega arith, rw head.1 l) in (e.0, for_in p n e.0 e.1 (ap (λ o. o.position) e.2), ap (λ o. o.attribute - 1) e.2 ∙ omega arith))
        t

-- ---- the left side's synthesized attributes: ss are the registers of the symbols passed, vs those of the left side's inherited attributes

pub record SynthesizedMade (g : Grammar) (p : Production) (ss vs base : List ℤ) : Type 0 where
  pub made : List ℤ
  pub sized : length made ≡ syn g (nonterminal p.left)
  pub ranged : T (all in_range made)
  pub rules : (r : Rule Occurrence) → In r p.rules → r.target.position ≡ 0
      → get_or made (r.target.attribute - 1 - inh g (nonterminal p.left)) (pos 0)
      ≡ apply (read_register (ss ++ (vs ++ (marks (syn g (nonterminal p.left)) ++ base)))) (map_function (select_after g p (length p.right)) r.function)
  pub registers : write_all (synthesized_rules g p) (ss ++ (vs ++ (marks (syn g (nonterminal p.left)) ++ base))) (ss ++ (vs ++ (marks (syn g (nonterminal p.left)) ++ base))) ≡ ss ++ (vs ++ (made ++ base))

pub synthesized_made : (g : Grammar) (p : Production) → Evaluable g p → (vs ss base : List ℤ) → length vs ≡ inh g (nonterminal p.left) → length ss ≡ syn_between g p 0 (length p.right)
    → T (all (λ r. in_range (apply (read_register (ss ++ (vs ++ (marks (syn g (nonterminal p.left)) ++ base)))) r.function)) (synthesized_rules g p))
    → SynthesizedMade g p ss vs base
synthesized_made g p fp vs ss base sv se t = record {
  made = w.made;
  sized = w.sized;
  ranged = w.ranged;
  rules = λ r i e. w.rules r (for_in p 0 r i e);
  registers = ap (λ z. write_all (synthesized_rules g p) old z) (sym (append_assoc ss vs (marks s ++ base))) ∙ (w.registers ∙ append_assoc ss vs (w.made ++ base));
}
  where
    s : ℕ
    s = syn g (nonterminal p.left)

    h : ℕ
    h = inh g (nonterminal p.left)

    n : ℕ
    n = length p.right

    old : List ℤ
    old = ss ++ (vs ++ (marks s ++ base))

    slot : Occurrence → ℕ
    slot o = o.attribute - 1 - h

    size : length (ss ++ vs) ≡ syn_between g p 0 n + h
    size = length-append ss vs ∙ omega (arith, se, sv)

    out : (r : Rule Occurrence) → In r (rules_for p 0) → (r.target.position ≡ 0) × (h < r.target.attribute) × (r.target.attribute ≤ h + s)
    out r i =
        let q = in_for p 0 r i in
        let o : OutputAt g p 0 r.target.attribute = rw q.0 at (fp.targets r q.1) in
        (q.0, o.0, o.1)

    w : Written slot (select_after g p n) old (rules_for p 0) s (ss ++ vs) base
    w = written slot (select_after g p n) old (rules_for p 0) s (ss ++ vs) base
        (distinct_keep (λ q. eqb q.target.position 0) p.rules fp.distinct)
        (λ q r i j e. let a = out q i in let b = out r j in occ_eq q.target r.target (a.0 ∙ sym b.0) (omega arith))
        (λ r i. let a = out r i in (omega (arith, target_of_synthesized g p n r.target a.0, a.1, size), omega arith))
        (λ j l. let e = fp.every (occurrence 0 (h + suc j)) (omega arith, omega arith) in (e.0, for_in p 0 e.0 e.1 (ap (λ o. o.position) e.2), ap (λ o. o.attribute - 1 - h) e.2 ∙ omega arith))
        t
