-- Where the values of a node's occurrences are read: for each position a mark, the place of a record in the sheet, or behind the sheet the number of a token.
use Prim.Native.Nat.{ℕ, zero, suc, ◌+◌, ◌-◌, ◌*◌, ◌≤◌, ◌<◌}
use Rattle.std.proofs.Common.{arith, sym, ap, ap₂, ◌∙◌, inl, inr, append_assoc, length-drop, le→leb, lt-ltb, le-ltb}
use Rattle.std.specs.Prelude.{◌≡◌, refl, Bool, true, false, ◌&&◌, cond, List, [], ◌∷◌, ◌++◌, get_or, length, drop, ltb, eqb, leb, ℤ, pos, negsuc}
use Rattle.std.proofs.Math.Path.{subst}
use Rattle.std.proofs.Math.Dec.{T}
use Rattle.meaning.specs.Base.{In, all, any}
use Rattle.meaning.specs.Grammar.{Grammar, Symbol, terminal, nonterminal, Occurrence, Rule, Condition, Production, Leaf, carried, leaf_of, leaves, att, symbol_at}
use Rattle.meaning.specs.Rules.{InputAt, OutputAt, Input, Output, Operand, WellFormed, WellFormedProduction}
use Rattle.meaning.specs.Value.{in_range, apply, holds}
use Rattle.meaning.specs.Calls.{tokens_from}
use Rattle.meaning.specs.Tree.{Tree, Forest, leaf, node, no_trees, tree_and, yield, yields, values, child, value_at, RulesHold, is_leaf_of, WellEvaluated, WellEvaluateds}
use Rattle.meaning_sheet.specs.Sheet.{record_bytes, sheet, sheets}
use Rattle.theory_base.specs.Members.{T→true, true→T, both, and}
use Rattle.theory_base.specs.Agree.{operands_map, apply_agree, reads_map, holds_agree}
use Rattle.theory_base.specs.Selectors.{leaf_ranges, tree_size}
use Rattle.value.specs.Ranged.{ranged, ranged_in, in_ranged}
use Rattle.theory_base.specs.Feeds.{carried_leaf}
use Rattle.theory_judge.specs.Longs.{long_at, longs, longs_at, cons_one}
use Rattle.theory_judge.specs.Described.{record_read, BytesStand, yield_small, Described, no_leaf}
use Rattle.theory_judge.specs.Holding.{same_z, same_exactly, rule_true, all_true}

-- ---- reading

-- a number where it is a value, else 0
abbrev pub value_or_zero : ℤ → ℤ
value_or_zero z = cond (in_range z) z (pos 0)

pub or_zero_same : (z : ℤ) → T (in_range z) → value_or_zero z ≡ z
or_zero_same z t = ap (λ b. cond b z (pos 0)) (T→true (in_range z) t)

unfoldable pub read_mark : List ℕ → List ℤ → ℕ → ℕ → ℤ
read_mark bytes vals m a = cond (ltb m (length bytes)) (value_or_zero (long_at bytes (m + 4 + 8 * a))) (get_or vals (m - length bytes) (pos 0))

unfoldable pub read_at : List ℕ → List ℤ → List ℕ → Occurrence → ℤ
read_at bytes vals marks o = read_mark bytes vals (get_or marks o.position 0) o.attribute

pub read_record : (bytes : List ℕ) (vals : List ℤ) (m a : ℕ) → m < length bytes → read_mark bytes vals m a ≡ value_or_zero (long_at bytes (m + 4 + 8 * a))
unfolding read_mark
read_record bytes vals m a l = ap (λ b. cond b (value_or_zero (long_at bytes (m + 4 + 8 * a))) (get_or vals (m - length bytes) (pos 0))) (lt-ltb m (length bytes) l)

pub read_token : (bytes : List ℕ) (vals : List ℤ) (m a : ℕ) → length bytes ≤ m → read_mark bytes vals m a ≡ get_or vals (m - length bytes) (pos 0)
unfolding read_mark
read_token bytes vals m a l = ap (λ b. cond b (value_or_zero (long_at bytes (m + 4 + 8 * a))) (get_or vals (m - length bytes) (pos 0))) (le-ltb m (length bytes) l)

-- ---- a mark shows the values of a tree

abbrev pub MarkShows : List ℕ → List ℤ → ℕ → Tree → Type 0
MarkShows bytes vals m t = (a : ℕ) → 1 ≤ a → a ≤ length (values t) → read_mark bytes vals m a ≡ get_or (values t) (a - 1) (pos 0)

-- the mark of a symbol whose records or token begin there, in a sheet of n bytes
abbrev pub mark_of : ℕ → Symbol → ℕ → ℕ → ℕ
mark_of n (terminal k) at from = n + from
mark_of n (nonterminal m) at from = at

-- the leaves of a segment, one by one
pub leaf_at : (g : Grammar) (ks : List ℕ) (vs : List ℤ) (i : ℕ) → i < length (leaves g (tokens_from ks vs)) → get_or (leaves g (tokens_from ks vs)) i no_leaf ≡ leaf_of g (record { kind = get_or ks i 0; value = get_or vs i (pos 0) })
leaf_at g [] vs i l = absurd (omega arith)
leaf_at g (k ∷ ks) [] i l = absurd (omega arith)
leaf_at g (k ∷ ks) (v ∷ vs) zero l = refl
leaf_at g (k ∷ ks) (v ∷ vs) (suc i) l = leaf_at g ks vs i (omega arith)

pub leaves_many : (g : Grammar) (ks : List ℕ) (vs : List ℤ) → length ks ≡ length vs → length (leaves g (tokens_from ks vs)) ≡ length ks
leaves_many g [] vs e = refl
leaves_many g (k ∷ ks) [] e = absurd (omega arith)
leaves_many g (k ∷ ks) (v ∷ vs) e = ap suc (leaves_many g ks vs (omega arith))

-- the one value that a terminal carries
carried_one : (b : Bool) (v : ℤ) (a : ℕ) → 1 ≤ a → a ≤ length (carried b v) → v ≡ get_or (carried b v) (a - 1) (pos 0)
carried_one true v a l h = let e : a - 1 ≡ 0 = omega arith in ap (λ i. get_or (v ∷ []) i (pos 0)) (sym e)
carried_one false v a l h = absurd (omega arith)

pub leaf_in : (g : Grammar) (ks : List ℕ) (vs : List ℤ) (i : ℕ) → i < length (leaves g (tokens_from ks vs)) → in_range (get_or vs i (pos 0)) ≡ true → T (is_leaf_of g (get_or (leaves g (tokens_from ks vs)) i no_leaf))
leaf_in g ks vs i l e = subst (λ u. T (is_leaf_of g u)) (sym (leaf_at g ks vs i l)) (carried_leaf (any (eqb (get_or ks i 0)) g.carrying) (get_or vs i (pos 0)) (true→T (in_range (get_or vs i (pos 0))) e))

-- a member of a list in range
in_range_at : (vs : List ℤ) → T (all in_range vs) → (i : ℕ) → i < length vs → T (in_range (get_or vs i (pos 0)))
in_range_at [] h i l = absurd (omega arith)
in_range_at (v ∷ vs) h zero l = (both (in_range v) (all in_range vs) h).0
in_range_at (v ∷ vs) h (suc i) l = in_range_at vs (both (in_range v) (all in_range vs) h).1 i (omega arith)

-- the values of a record that stands at m
pub values_shown : (bytes : List ℕ) (vals : List ℤ) (m : ℕ) (p : ℕ) (vs : List ℤ) (f : Forest) → m < length bytes → T (all in_range vs) → longs bytes (m + 12) (length vs) ≡ vs → MarkShows bytes vals m (node p vs f)
values_shown bytes vals m p vs f l t e a low high =
    let i : ℕ = a - 1 in
    let at_place : m + 12 + 8 * i ≡ m + 4 + 8 * a = omega arith in
    let here : long_at bytes (m + 4 + 8 * a) ≡ get_or vs i (pos 0) = ap (long_at bytes) (sym at_place) ∙ (sym (longs_at bytes (m + 12) (length vs) i (omega arith)) ∙ ap (λ l. get_or l i (pos 0)) e) in
    read_record bytes vals m a l ∙ (ap value_or_zero here ∙ or_zero_same (get_or vs i (pos 0)) (in_range_at vs t i (omega arith)))

module _ (g : Grammar) (formed : WellFormed g) (ks : List ℕ) (vals : List ℤ) (few : length (leaves g (tokens_from ks vals)) < 4294967296) (bytes : List ℕ) (at from : ℕ) (low : from ≤ length (leaves g (tokens_from ks vals))) where
  abbrev us : List Leaf
  us = leaves g (tokens_from ks vals)

  pub described_shown : (x : Symbol) (d n e : ℕ) (h : Described g us bytes at from x d n e) → MarkShows bytes vals (mark_of (length bytes) x at from) h.tree
  described_shown x d n e h = go x h.tree h.evaluated h.stands
    where
      go : (x : Symbol) (t : Tree) → WellEvaluated g t x → BytesStand us bytes at from (sheet from t) (yield t) n e → MarkShows bytes vals (mark_of (length bytes) x at from) t
      go (terminal k) (leaf u) w s a lo hi =
          let l : from < length us = omega (arith, ap length s.tokens, length-drop from us) in
          let f : get_or us from no_leaf ∷ drop (from + 1) us ≡ u ∷ drop e us = sym (cons_one us no_leaf from l) ∙ s.tokens in
          let here : get_or us from no_leaf ≡ u = cc in
          let v : ℤ = get_or vals from (pos 0) in
          let b : Bool = any (eqb (get_or ks from 0)) g.carrying in
          let is : u.values ≡ carried b v = ap (λ z. z.values) (sym here ∙ leaf_at g ks vals from l) in
          let place : length bytes + from - length bytes ≡ from = omega arith in
          read_token bytes vals (length bytes + from) a (omega arith) ∙ (ap (λ i. get_or vals i (pos 0)) place ∙ (carried_one b v a lo (omega (arith, hi, ap length is)) ∙ ap (λ l. get_or l (a - 1) (pos 0)) (sym is)))
      go (terminal k) (node p vs f) w s a lo hi = let z = w.0.symbol in let y : ◌≡◌ {A = ℕ} 0 1 = cc in absurd (omega arith)
      go (nonterminal m) (leaf u) w s a lo hi = let z = w.0 in let y : ◌≡◌ {A = ℕ} 0 1 = cc in absurd (omega arith)
      go (nonterminal m) (node p vs f) w s a lo hi =
          let e₀ : drop at bytes ≡ record_bytes p from (length (yields f)) vs ++ (sheets from f ++ drop n bytes) = s.written ∙ append_assoc (record_bytes p from (length (yields f)) vs) (sheets from f) (drop n bytes) in
          let rest = sheets from f ++ drop n bytes in
          let r = record_read bytes at p from (length (yields f)) vs rest (omega (arith, w.0.listed, formed.productions.1)) (omega arith) (omega (arith, yield_small s)) w.0.ranges e₀ in
          values_shown bytes vals at p vs f (omega (arith, r.inside)) w.0.ranges r.values a lo hi

-- ---- marks show all occurrences of a node

-- an occurrence that a production has
abbrev HasAt : Grammar → Production → ℕ → ℕ → Type 0
HasAt g p zero a = (1 ≤ a) × (a ≤ att g (nonterminal p.left))
HasAt g p (suc i) a = (i < length p.right) × (1 ≤ a) × (a ≤ att g (symbol_at p (suc i)))

abbrev Has : Grammar → Production → Occurrence → Type 0
Has g p o = HasAt g p o.position o.attribute

input_has : (g : Grammar) (p : Production) (o : Occurrence) → Input g p o → Has g p o
input_has g p o u = go o.position o.attribute u
  where
    go : (k a : ℕ) → InputAt g p k a → HasAt g p k a
    go zero a w = (w.0, omega (arith, w.1))
    go (suc i) a w = (w.0, omega (arith, w.1), w.2)

output_has : (g : Grammar) (p : Production) (o : Occurrence) → Output g p o → Has g p o
output_has g p o u = go o.position o.attribute u
  where
    go : (k a : ℕ) → OutputAt g p k a → HasAt g p k a
    go zero a w = (omega (arith, w.0), w.1)
    go (suc i) a w = (w.0, w.1, omega (arith, w.2))

operand_has : (g : Grammar) (p : Production) (k : ℕ) (o : Occurrence) → Operand g p k o → Has g p o
operand_has g p zero o u = input_has g p o u
operand_has g p (suc k) o u = input_has g p o u.0

-- the values of a child are as many as its symbol has attributes
pub child_size : (g : Grammar) (f : Forest) (xs : List Symbol) → WellEvaluateds g f xs → (i : ℕ) → i < length xs → length (values (child f i)) ≡ att g (get_or xs i (terminal 0))
child_size g no_trees [] w i l = absurd (omega arith)
child_size g no_trees (x ∷ xs) w i l = absurd w
child_size g (tree_and t f) [] w i l = absurd w
child_size g (tree_and t f) (x ∷ xs) w zero l = tree_size g t x w.0
child_size g (tree_and t f) (x ∷ xs) w (suc i) l = child_size g f xs w.1 i (omega arith)

tree_ranges : (g : Grammar) (t : Tree) (x : Symbol) → WellEvaluated g t x → T (all in_range (values t))
tree_ranges g (leaf u) x w = leaf_ranges g u w.1
tree_ranges g (node p vs f) x w = w.0.ranges

child_ranges : (g : Grammar) (f : Forest) (xs : List Symbol) → WellEvaluateds g f xs → (i : ℕ) → i < length xs → T (all in_range (values (child f i)))
child_ranges g no_trees [] w i l = absurd (omega arith)
child_ranges g no_trees (x ∷ xs) w i l = absurd w
child_ranges g (tree_and t f) [] w i l = absurd w
child_ranges g (tree_and t f) (x ∷ xs) w zero l = tree_ranges g t x w.0
child_ranges g (tree_and t f) (x ∷ xs) w (suc i) l = child_ranges g f xs w.1 i (omega arith)

module _ (g : Grammar) (bytes : List ℕ) (vals : List ℤ) (marks : List ℕ) (pr : Production) (formed : WellFormedProduction g pr) (vs : List ℤ) (f : Forest)
    (size : length vs ≡ att g (nonterminal pr.left)) (ranges : T (all in_range vs)) (kids : WellEvaluateds g f pr.right)
    (own : MarkShows bytes vals (get_or marks 0 0) (node 0 vs f)) (shown : (i : ℕ) → i < length pr.right → MarkShows bytes vals (get_or marks (suc i) 0) (child f i)) where
  agrees : (o : Occurrence) → Has g pr o → read_at bytes vals marks o ≡ value_at vs f o
  unfolding read_at
  agrees o h = go o.position o.attribute h
    where
      go : (k a : ℕ) → HasAt g pr k a → read_at bytes vals marks (record { position = k; attribute = a }) ≡ value_at vs f (record { position = k; attribute = a })
      go zero a u = own a u.0 (omega (arith, u.1, size))
      go (suc i) a u = shown i u.0 a u.1 (omega (arith, u.2, child_size g f pr.right kids i u.0))

  value_in : (o : Occurrence) → Has g pr o → T (in_range (value_at vs f o))
  value_in o h = go o.position o.attribute h
    where
      go : (k a : ℕ) → HasAt g pr k a → T (in_range (value_at vs f (record { position = k; attribute = a })))
      go zero a u = in_range_at vs ranges (a - 1) (omega (arith, u.0, u.1, size))
      go (suc i) a u = in_range_at (values (child f i)) (child_ranges g f pr.right kids i u.0) (a - 1) (omega (arith, u.1, u.2, child_size g f pr.right kids i u.0))

  apply_same : (r : Rule Occurrence) → In r pr.rules → apply (read_at bytes vals marks) r.function ≡ apply (value_at vs f) r.function
  apply_same r i = apply_agree (read_at bytes vals marks) (value_at vs f) r.function (operands_map (λ o u. agrees o (operand_has g pr r.target.position o u)) r.function (formed.operands r i))

  target_same : (r : Rule Occurrence) → In r pr.rules → read_at bytes vals marks r.target ≡ value_at vs f r.target
  target_same r i = agrees r.target (output_has g pr r.target (formed.targets r i))

  target_in : (r : Rule Occurrence) → In r pr.rules → in_range (read_at bytes vals marks r.target) ≡ true
  target_in r i = ap in_range (target_same r i) ∙ T→true (in_range (value_at vs f r.target)) (value_in r.target (output_has g pr r.target (formed.targets r i)))

  rule_true_lem : (r : Rule Occurrence) → In r pr.rules → T (rule_true (read_at bytes vals marks) r) → value_at vs f r.target ≡ apply (value_at vs f) r.function
  rule_true_lem r i t =
      let z : ℤ = apply (read_at bytes vals marks) r.function in
      let y : ℤ = read_at bytes vals marks r.target in
      let e : ranged z ≡ y = same_exactly (ranged z) y t in
      let inside : in_range z ≡ true = sym (in_ranged z) ∙ (ap in_range e ∙ target_in r i) in
      sym (target_same r i) ∙ (sym e ∙ (ranged_in z inside ∙ apply_same r i))

  same_self : (z : ℤ) → T (same_z z z)
  same_self z = go z
    where
      go : (z : ℤ) → T (same_z z z)
      go (pos n) = and (leb n n) (leb n n) (le→leb n n (omega arith)) (le→leb n n (omega arith))
      go (negsuc n) = and (leb n n) (leb n n) (le→leb n n (omega arith)) (le→leb n n (omega arith))

  true_rule : (r : Rule Occurrence) → In r pr.rules → value_at vs f r.target ≡ apply (value_at vs f) r.function → T (rule_true (read_at bytes vals marks) r)
  true_rule r i e =
      let z : ℤ = apply (read_at bytes vals marks) r.function in
      let y : ℤ = read_at bytes vals marks r.target in
      let same : z ≡ y = apply_same r i ∙ (sym e ∙ sym (target_same r i)) in
      let inside : in_range z ≡ true = ap in_range same ∙ target_in r i in
      subst (λ w. T (same_z w y)) (sym (ranged_in z inside ∙ same)) (same_self y)

  rules_true : (rs : List (Rule Occurrence)) → ((r : Rule Occurrence) → In r rs → In r pr.rules) → T (all (rule_true (read_at bytes vals marks)) rs) → RulesHold vs f rs
  rules_true [] i t = tt
  rules_true (r ∷ rs) i t =
      let b = both (rule_true (read_at bytes vals marks) r) (all (rule_true (read_at bytes vals marks)) rs) t in
      (rule_true_lem r (i r (inl refl)) b.0, rules_true rs (λ q j. i q (inr j)) b.1)

  true_rules : (rs : List (Rule Occurrence)) → ((r : Rule Occurrence) → In r rs → In r pr.rules) → RulesHold vs f rs → T (all (rule_true (read_at bytes vals marks)) rs)
  true_rules [] i t = tt
  true_rules (r ∷ rs) i t = and (rule_true (read_at bytes vals marks) r) (all (rule_true (read_at bytes vals marks)) rs) (true_rule r (i r (inl refl)) t.0) (true_rules rs (λ q j. i q (inr j)) t.1)

  holds_same : (cs : List (Condition Occurrence)) → ((c : Condition Occurrence) → In c cs → In c pr.conditions) → all (holds (read_at bytes vals marks)) cs ≡ all (holds (value_at vs f)) cs
  holds_same [] i = refl
  holds_same (c ∷ cs) i = ap₂ ◌&&◌ (holds_agree (read_at bytes vals marks) (value_at vs f) c (reads_map (λ o u. agrees o (input_has g pr o u)) c (formed.reads c (i c (inl refl))))) (holds_same cs (λ q j. i q (inr j)))

  pub all_hold : all_true (read_at bytes vals marks) pr.rules pr.conditions ≡ true → RulesHold vs f pr.rules × T (all (holds (value_at vs f)) pr.conditions)
  unfolding all_true
  all_hold e =
      let b = both (all (rule_true (read_at bytes vals marks)) pr.rules) (all (holds (read_at bytes vals marks)) pr.conditions) (true→T _ e) in
      (rules_true pr.rules (λ r i. i) b.0, subst T (holds_same pr.conditions (λ c i. i)) b.1)

  pub hold_all_lem : RulesHold vs f pr.rules → T (all (holds (value_at vs f)) pr.conditions) → all_true (read_at bytes vals marks) pr.rules pr.conditions ≡ true
  unfolding all_true
  hold_all_lem h c =
      T→true _ (and (all (rule_true (read_at bytes vals marks)) pr.rules) (all (holds (read_at bytes vals marks)) pr.conditions) (true_rules pr.rules (λ r i. i) h) (subst T (sym (holds_same pr.conditions (λ c i. i))) c))
