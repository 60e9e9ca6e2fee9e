-- A well evaluated node whose first k children are left is a good node in progress: the machine's evaluations and tests on its registers give the tree's values.
use Rattle.std.specs.Prelude.{ℕ, zero, suc, ◌-◌, ◌≤◌, ◌<◌, ◌≡◌, refl, Bool, true, false, cond, List, [], ◌∷◌, ◌++◌, map, get_or, length, take, drop, T, eqb, ℤ, pos}
use Rattle.std.proofs.Common.{arith, sym, ap, ◌∙◌, subst, inl, inr, append_assoc, length-take, length-drop, length-append, take-append-drop, drop-cons, drop_at, get_or-take, eqb→eq}
use Rattle.std.proofs.Math.Seq.{drop-length}
use Rattle.std.proofs.Math.Dec.{eqb_refl}
use Rattle.meaning.specs.Base.{all, In}
use Rattle.meaning.specs.Grammar.{Symbol, terminal, nonterminal, Occurrence, Rule, Condition, Production, Grammar, inh, syn, added_for, production_at, symbol_at, condition_position, marked_for, map_rule, map_condition, conditions_at}
use Rattle.meaning.specs.Value.{apply, holds, in_range}
use Rattle.meaning.specs.Scheme.{rules_for, inherited_rules, synthesized_rules, tests_after, select_inherited, select_after, syn_between, removed}
use Rattle.meaning.specs.Machine.{read_register, write_all}
use Rattle.meaning.specs.Rules.{OutputAt}
use Rattle.meaning.specs.Tree.{Tree, Forest, leaf, node, no_trees, tree_and, values, child, value_at, RulesHold, WellEvaluated, WellEvaluateds, inherited_of, synthesized_of, waiting}
use Rattle.meaning.specs.Part.{child_of, value_row, value_in, syns_of, marks, Lefts, Front, Handed, Results}
use Rattle.meaning.specs.Selectors.{occurrence}
use Rattle.theory_base.specs.Members.{T→true, all_take, all_drop, all_in, in_all, in_keep, map_in, get_d_in}
use Rattle.theory_base.specs.WellFormed.{Available, Evaluable}
use Rattle.theory_base.specs.Agree.{operands_map, apply_agree, reads_map, holds_agree, reads_available}
use Rattle.theory_base.specs.Selectors.{syn_size, length_syns}
use Rattle.theory_base.specs.Values.{stay_own, operands_available}
use Rattle.theory_base.specs.Present.{in_for}
use Rattle.theory_base.specs.Grow.{Hand, hand, Close, close, value_inherited, value_synthesized, test_value, handed_one, results_one}

-- ---- the first k children, the latest first

abbrev pub firsts : ℕ → Forest → List Tree
firsts zero f = []
firsts (suc k) f = child f k ∷ firsts k f

pub length_firsts : (k : ℕ) (f : Forest) → length (firsts k f) ≡ k
length_firsts zero f = refl
length_firsts (suc k) f = ap suc (length_firsts k f)

child_firsts : (k : ℕ) (f : Forest) (i : ℕ) → i < k → child_of (firsts k f) i ≡ child f i
child_firsts zero f i l = absurd (omega arith)
child_firsts (suc k) f i l = go (eqb i (length (firsts k f))) refl (λ m. child_firsts k f i m)
  where
    go : (b : Bool) → eqb i (length (firsts k f)) ≡ b → (i < k → child_of (firsts k f) i ≡ child f i) → cond b (child f k) (child_of (firsts k f) i) ≡ child f i
    go true e ih = ap (child f) (sym (eqb→eq i (length (firsts k f)) (rw e tt) ∙ length_firsts k f))
    go false e ih =
        let q : i ≡ length (firsts k f) → ⊥ = λ h. subst T e (rw h (eqb_refl (length (firsts k f)))) in
        ih (omega (arith, length_firsts k f))

pub child_evaluated : (g : Grammar) (f : Forest) (xs : List Symbol) (i : ℕ) → WellEvaluateds g f xs → i < length xs → WellEvaluated g (child f i) (get_or xs i (terminal 0))
child_evaluated g no_trees [] i w h = absurd (omega arith)
child_evaluated g no_trees (x ∷ xs) i w h = absurd w
child_evaluated g (tree_and t f) [] i w h = absurd w
child_evaluated g (tree_and t f) (x ∷ xs) zero w h = w.0
child_evaluated g (tree_and t f) (x ∷ xs) (suc i) w h = child_evaluated g f xs i w.1 (omega arith)

firsts_good : (g : Grammar) (p : Production) (f : Forest) → WellEvaluateds g f p.right → (k : ℕ) → k ≤ length p.right → Lefts g p (firsts k f)
firsts_good g p f w zero h = tt
firsts_good g p f w (suc k) h = (omega (arith, length_firsts k f), subst (λ j. WellEvaluated g (child f k) (symbol_at p (suc j))) (sym (length_firsts k f)) (child_evaluated g f p.right k w h), firsts_good g p f w k (omega arith))

row_same : (vs : List ℤ) (f : Forest) (k i a : ℕ) → i ≤ k → value_row vs (firsts k f) i a ≡ value_at vs f (occurrence i a)
row_same vs f k zero a l = refl
row_same vs f k (suc i) a l = ap (λ t. get_or (values t) (a - 1) (pos 0)) (child_firsts k f i l)

-- a child's row does not depend on the left side
other_row : (vs us : List ℤ) (ts : List Tree) (i a : ℕ) → 1 ≤ i → value_row vs ts i a ≡ value_row us ts i a
other_row vs us ts zero a l = absurd (omega arith)
other_row vs us ts (suc i) a l = refl

rules_in : (vs : List ℤ) (f : Forest) (rs : List (Rule Occurrence)) → RulesHold vs f rs → (r : Rule Occurrence) → In r rs → value_at vs f r.target ≡ apply (value_at vs f) r.function
rules_in vs f [] h r i = absurd i
rules_in vs f (q ∷ rs) h r (inl e) = rw e h.0
rules_in vs f (q ∷ rs) h r (inr i) = rules_in vs f rs h.1 r i

pub length_inherited : (g : Grammar) (t : Tree) (x : Symbol) → WellEvaluated g t x → length (inherited_of g t) ≡ inh g x
length_inherited g (leaf t) x w = rw w.0 refl
length_inherited g (node p vs f) x w =
    let e = rw w.0.symbol at w.0.size in
    rw (w.0.symbol, length-take) (omega arith)

-- what is drawn for a child that is waited at
pub waiting_is : (g : Grammar) (t : Tree) (x : Symbol) → WellEvaluated g t x → waiting g t ≡ inherited_of g t ++ marks (marked_for g x)
waiting_is g (leaf t) x w = rw w.0 refl
waiting_is g (node p vs f) x w = ap (λ n. inherited_of g (node p vs f) ++ marks n) (syn_size g (node p vs f) x w ∙ ap (syn g) w.0.symbol ∙ ap (marked_for g) (sym w.0.symbol))

inherited_at : (g : Grammar) (t : Tree) (x : Symbol) (a : ℕ) → WellEvaluated g t x → 1 ≤ a → a ≤ inh g x → get_or (inherited_of g t) (a - 1) (pos 0) ≡ get_or (values t) (a - 1) (pos 0)
inherited_at g (leaf t) x a w l h = let z : a ≤ 0 = rw w.0 at h in absurd (omega arith)
inherited_at g (node p vs f) x a w l h = rw (← w.0.symbol) (get_or-take (inh g x) vs (a - 1) (pos 0) (omega arith))

inherited_range : (g : Grammar) (t : Tree) (x : Symbol) → WellEvaluated g t x → T (all in_range (inherited_of g t))
inherited_range g (leaf t) x w = tt
inherited_range g (node p vs f) x w = all_take in_range (inh g (nonterminal (production_at g p).left)) vs w.0.ranges

-- ---- a node whose left side has the values vs and whose children are f

pub record Evaluated (g : Grammar) (p : Production) (vs : List ℤ) (f : Forest) : Type 0 where
  pub formed : Evaluable g p
  pub children : WellEvaluateds g f p.right
  pub size : length vs ≡ added_for g (symbol_at p 0)
  pub ranges : T (all in_range vs)
  pub rules : RulesHold vs f p.rules
  pub conditions : T (all (holds (value_at vs f)) p.conditions)

-- the values of its inherited attributes, and of its synthesized ones
abbrev pub inherited_in : Grammar → Production → List ℤ → List ℤ
inherited_in g p vs = take (inh g (symbol_at p 0)) vs

abbrev pub synthesized_in : Grammar → Production → List ℤ → List ℤ
synthesized_in g p vs = drop (inh g (symbol_at p 0)) vs

module _ (g : Grammar) (p : Production) (vs : List ℤ) (f : Forest) (e : Evaluated g p vs f) where
  own_size_lem : length (inherited_in g p vs) ≡ inh g (symbol_at p 0)
  own_size_lem = length-take (inh g (symbol_at p 0)) vs ∙ omega (arith, e.size)

  agrees : (k : ℕ) (o : Occurrence) → Available g p k o → value_in (inherited_in g p vs) (firsts k f) o ≡ value_at vs f o
  agrees k o h =
      sym (stay_own g p (inherited_in g p vs) (synthesized_in g p vs) (firsts k f) o own_size_lem h.0)
      ∙ (ap (λ z. value_in z (firsts k f) o) (take-append-drop (inh g (symbol_at p 0)) vs)
      ∙ row_same vs f k o.position o.attribute h.1)

  -- what a rule computes, k children being left and all that it reads among them
  computes : (k : ℕ) (r : Rule Occurrence) → In r p.rules → r.target.position ≤ suc k → (r.target.position ≡ 0 → length p.right ≤ k) → apply (value_in (inherited_in g p vs) (firsts k f)) r.function ≡ value_at vs f r.target
  computes k r i h m =
      apply_agree (value_in (inherited_in g p vs) (firsts k f)) (value_at vs f) r.function (operands_map (λ o u. agrees k o u) r.function (operands_available g p e.formed k r i h m))
      ∙ sym (rules_in vs f p.rules e.rules r i)

  pub front : (k : ℕ) → k ≤ length p.right → Front g p (inherited_in g p vs) (firsts k f)
  front k h = record {
    sized = own_size_lem;
    ranged = all_take in_range (inh g (symbol_at p 0)) vs e.ranges;
    lefts = firsts_good g p f e.children k h;
    rules = λ r i l m.
        let m' : r.target.position ≤ k = omega (arith, length_firsts k f) in
        other_row (inherited_in g p vs) vs (firsts k f) r.target.position r.target.attribute l ∙ (row_same vs f k r.target.position r.target.attribute m' ∙ sym (computes k r i (omega arith) (λ z. absurd (omega arith))));
  }

  pub tested : (k : ℕ) (c : Condition Occurrence) → In c p.conditions → condition_position c ≤ k → T (holds (value_in (inherited_in g p vs) (firsts k f)) c)
  tested k c i l =
      rw (holds_agree (value_in (inherited_in g p vs) (firsts k f)) (value_at vs f) c (reads_map (λ o u. agrees k o u) c (reads_available g p k c l (e.formed.reads c i))))
      (all_in (holds (value_at vs f)) p.conditions e.conditions c i)

  pub handed : (k : ℕ) → k < length p.right → Handed g p (inherited_in g p vs) (firsts k f) (symbol_at p (suc k)) (inherited_of g (child f k))
  handed k h = record {
    sized = length_inherited g (child f k) x w;
    ranged = inherited_range g (child f k) x w;
    rules = λ r i z. value r i (z ∙ ap suc (length_firsts k f));
  }
    where
      x : Symbol
      x = symbol_at p (suc k)

      w : WellEvaluated g (child f k) x
      w = child_evaluated g f p.right k e.children h

      value : (r : Rule Occurrence) → In r p.rules → r.target.position ≡ suc k → get_or (inherited_of g (child f k)) (r.target.attribute - 1) (pos 0) ≡ apply (value_in (inherited_in g p vs) (firsts k f)) r.function
      value r i at =
          let o : OutputAt g p (suc k) r.target.attribute = subst (λ j. OutputAt g p j r.target.attribute) at (e.formed.targets r i) in
          inherited_at g (child f k) x r.target.attribute w o.1 o.2
          ∙ (ap (λ j. value_at vs f (occurrence j r.target.attribute)) (sym at) ∙ sym (computes k r i (omega arith) (λ z. absurd (omega arith))))

  pub results : Results g p (inherited_in g p vs) (firsts (length p.right) f) (synthesized_in g p vs)
  results = record {
    sized = length-drop (inh g (symbol_at p 0)) vs ∙ omega (arith, e.size);
    ranged = all_drop in_range (inh g (symbol_at p 0)) vs e.ranges;
    rules = λ r i at. ap (λ z. get_or z (r.target.attribute - 1) (pos 0)) (take-append-drop (inh g (symbol_at p 0)) vs) ∙ (ap (λ j. value_at vs f (occurrence j r.target.attribute)) (sym at) ∙ sym (computes (length p.right) r i (omega arith) (λ z. omega arith)));
  }

-- ---- its registers

-- after the first k children are left: theirs, the node's inherited ones, and what lies below
abbrev pub under : Grammar → Production → List ℤ → Forest → List ℤ → ℕ → List ℤ
under g p vs f tail k = syns_of g (firsts k f) ++ (inherited_in g p vs ++ tail)

-- and with the registers of symbol k + 1 added
abbrev pub added : Grammar → Production → List ℤ → Forest → List ℤ → ℕ → List ℤ
added g p vs f tail k = marks (added_for g (symbol_at p (suc k))) ++ under g p vs f tail k

pub under_next : (g : Grammar) (p : Production) (vs : List ℤ) (f : Forest) (tail : List ℤ) (k : ℕ) → under g p vs f tail (suc k) ≡ synthesized_of g (child f k) ++ under g p vs f tail k
under_next g p vs f tail k = append_assoc (synthesized_of g (child f k)) (syns_of g (firsts k f)) (inherited_in g p vs ++ tail)

-- a member of the rules that an instruction holds, and back
from_rules : (p : Production) (k : ℕ) (sel : Occurrence → ℕ) (d : Rule ℕ) → In d (map (map_rule sel) (rules_for p k)) → (r : Rule Occurrence) × In r p.rules × (r.target.position ≡ k) × (d ≡ map_rule sel r)
from_rules p k sel d i =
    let m = map_in (map_rule sel) (rules_for p k) d i in
    let q = in_for p k m.0 m.1 in
    (m.0, q.1, q.0, m.2)

module _ (g : Grammar) (p : Production) (vs : List ℤ) (f : Forest) (e : Evaluated g p vs f) (tail : List ℤ) (k : ℕ) (h : k < length p.right) where
  pub child_fits : WellEvaluated g (child f k) (symbol_at p (suc k))
  child_fits = child_evaluated g f p.right k e.children h

  pub next_symbol : drop (length (firsts k f)) p.right ≡ symbol_at p (suc k) ∷ drop (suc k) p.right
  next_symbol = ap (λ j. drop j p.right) (length_firsts k f) ∙ drop-cons p.right k (terminal 0) h

  in_range_at : T (all (λ r. in_range (apply (read_register (added g p vs f tail k)) r.function)) (inherited_rules g p (suc (length (firsts k f)))))
  in_range_at = in_all (λ r. in_range (apply (read_register (added g p vs f tail k)) r.function)) (inherited_rules g p (suc (length (firsts k f)))) (λ d i. one d (from_rules p (suc (length (firsts k f))) (select_inherited g p (suc (length (firsts k f)))) d i))
    where
      one : (d : Rule ℕ) → (r : Rule Occurrence) × In r p.rules × (r.target.position ≡ suc (length (firsts k f))) × (d ≡ map_rule (select_inherited g p (suc (length (firsts k f)))) r) → T (in_range (apply (read_register (added g p vs f tail k)) d.function))
      one d m =
          let r : Rule Occurrence = m.0 in
          let is : List ℤ = inherited_of g (child f k) in
          let hd = handed g p vs f e k h in
          let o : OutputAt g p (suc k) r.target.attribute = subst (λ j. OutputAt g p j r.target.attribute) (m.2 ∙ ap suc (length_firsts k f)) (e.formed.targets r m.1) in
          let v = value_inherited g p e.formed (inherited_in g p vs) (firsts k f) (symbol_at p (suc k)) (drop (suc k) p.right) tail (front g p vs f e k (omega arith)) next_symbol r m.1 m.2 ∙ sym (hd.rules r m.1 m.2) in
          rw (m.3, v) (all_in in_range is hd.ranged (get_or is (r.target.attribute - 1) (pos 0)) (get_d_in is (r.target.attribute - 1) (pos 0) (omega (arith, hd.sized, o.1, o.2))))

  pub inherited_in_range : all (λ r. in_range (apply (read_register (added g p vs f tail k)) r.function)) (inherited_rules g p (suc k)) ≡ true
  inherited_in_range = T→true _ (subst (λ j. T (all (λ r. in_range (apply (read_register (added g p vs f tail k)) r.function)) (inherited_rules g p (suc j)))) (length_firsts k f) in_range_at)

  -- the inherited values in, the synthesized registers still marked
  pub evaluates_inherited : write_all (inherited_rules g p (suc k)) (added g p vs f tail k) (added g p vs f tail k) ≡ waiting g (child f k) ++ under g p vs f tail k
  evaluates_inherited =
      let x : Symbol = symbol_at p (suc k) in
      let u : List ℤ = under g p vs f tail k in
      let a : Hand g p (inherited_in g p vs) (firsts k f) x u = hand g p e.formed (inherited_in g p vs) (firsts k f) x (drop (suc k) p.right) tail (front g p vs f e k (omega arith)) next_symbol in_range_at in
      let same : a.made ≡ inherited_of g (child f k) = handed_one g p e.formed (inherited_in g p vs) (firsts k f) x (drop (suc k) p.right) a.made (inherited_of g (child f k)) next_symbol a.handed (handed g p vs f e k h) in
      ap (λ j. write_all (inherited_rules g p (suc j)) (added g p vs f tail k) (added g p vs f tail k)) (sym (length_firsts k f))
      ∙ (a.registers
      ∙ (ap (λ z. (z ++ marks (marked_for g x)) ++ u) same ∙ ap (λ z. z ++ u) (sym (waiting_is g (child f k) x child_fits))))

module _ (g : Grammar) (p : Production) (vs : List ℤ) (f : Forest) (e : Evaluated g p vs f) (tail : List ℤ) (k : ℕ) (h : k ≤ length p.right) where
  -- after the first k children are left, the conditions of position k hold of the registers; at 0 they are the entry conditions
  pub tests_hold : all (holds (read_register (under g p vs f tail k))) (tests_after g p k) ≡ true
  tests_hold = T→true _ (subst (λ j. T (all (holds (read_register (under g p vs f tail k))) (tests_after g p j))) (length_firsts k f) (in_all (holds (read_register (under g p vs f tail k))) (tests_after g p (length (firsts k f))) one))
    where
      one : (d : Condition ℕ) → In d (tests_after g p (length (firsts k f))) → T (holds (read_register (under g p vs f tail k)) d)
      one d i =
          let m = map_in (map_condition (select_after g p (length (firsts k f)))) (conditions_at p (length (firsts k f))) d i in
          let q = in_keep (λ c. eqb (condition_position c) (length (firsts k f))) p.conditions m.0 m.1 in
          let at : condition_position m.0 ≡ length (firsts k f) = eqb→eq _ _ q.0 in
          let fr = front g p vs f e k h in
          rw (m.2, test_value g p e.formed (inherited_in g p vs) (firsts k f) tail fr.sized fr.lefts m.0 q.1 at) (tested g p vs f e k m.0 q.1 (omega (arith, at, length_firsts k f)))

-- ---- the left side's synthesized attributes

module _ (g : Grammar) (p : Production) (vs : List ℤ) (f : Forest) (e : Evaluated g p vs f) (rs : List ℤ) where
  abbrev n : ℕ
  n = length p.right

  -- its registers after all the children are left
  abbrev pub full : List ℤ
  full = under g p vs f (marks (syn g (symbol_at p 0)) ++ rs) n

  none_left : drop (length (firsts n f)) p.right ≡ []
  none_left = ap (λ j. drop j p.right) (length_firsts n f) ∙ drop-length p.right

  results_range : T (all (λ r. in_range (apply (read_register full) r.function)) (synthesized_rules g p))
  results_range = in_all (λ r. in_range (apply (read_register full) r.function)) (synthesized_rules g p) (λ d i. one d (from_rules p 0 (select_after g p n) d i))
    where
      one : (d : Rule ℕ) → (r : Rule Occurrence) × In r p.rules × (r.target.position ≡ 0) × (d ≡ map_rule (select_after g p n) r) → T (in_range (apply (read_register full) d.function))
      one d m =
          let r : Rule Occurrence = m.0 in
          let o : OutputAt g p 0 r.target.attribute = subst (λ j. OutputAt g p j r.target.attribute) m.2 (e.formed.targets r m.1) in
          let v = value_synthesized g p e.formed (inherited_in g p vs) (firsts n f) (marks (syn g (symbol_at p 0)) ++ rs) (front g p vs f e n (omega arith)) none_left r m.1 m.2 ∙ sym ((results g p vs f e).rules r m.1 m.2) in
          let whole = inherited_in g p vs ++ synthesized_in g p vs in
          let a = r.target.attribute - 1 in
          let all_values : T (all in_range whole) = rw (take-append-drop (inh g (symbol_at p 0)) vs) e.ranges in
          let size = ap length (take-append-drop (inh g (symbol_at p 0)) vs) in
          rw (m.3, v) (all_in in_range whole all_values (get_or whole a (pos 0)) (get_d_in whole a (pos 0) (omega (arith, size, e.size, o.0, o.1))))

  pub synthesized_in_range : all (λ r. in_range (apply (read_register full) r.function)) (synthesized_rules g p) ≡ true
  synthesized_in_range = T→true _ results_range

  -- the synthesized values in
  pub evaluates_synthesized : write_all (synthesized_rules g p) full full ≡ under g p vs f (synthesized_in g p vs ++ rs) n
  evaluates_synthesized =
      let a : Close g p (inherited_in g p vs) (firsts n f) rs = close g p e.formed (inherited_in g p vs) (firsts n f) rs (front g p vs f e n (omega arith)) none_left results_range in
      let same : a.made ≡ synthesized_in g p vs = results_one g p e.formed (inherited_in g p vs) (firsts n f) a.made (synthesized_in g p vs) (own_size_lem g p vs f e) a.results (results g p vs f e) in
      a.registers ∙ ap (λ z. under g p vs f (z ++ rs) n) same

  -- what remove leaves
  pub removes : (below : List ℤ) → drop (removed g p) (under g p vs f below n) ≡ below
  removes below =
      let size : length (syns_of g (firsts n f) ++ inherited_in g p vs) ≡ removed g p = length-append (syns_of g (firsts n f)) (inherited_in g p vs) ∙ omega (arith, length_syns g p (firsts n f) (front g p vs f e n (omega arith)).lefts, own_size_lem g p vs f e, ap (syn_between g p 0) (length_firsts n f)) in
      ap (drop (removed g p)) (sym (append_assoc (syns_of g (firsts n f)) (inherited_in g p vs) below)) ∙ drop_at (syns_of g (firsts n f) ++ inherited_in g p vs) below (removed g p) size
