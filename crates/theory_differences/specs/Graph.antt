-- The graph of the differences: node 0 stands for zero, node a for the attribute a. An edge from i to j with the length w says that i's value is at most j's plus w.
use Prim.Native.Nat.{ℕ, zero, suc, ◌≤◌, ◌<◌}
use Rattle.std.proofs.Common.{arith, ap, ◌∙◌, lt-ltb, le-ltb, ltb→lt, nltb→le}
use Rattle.std.specs.Prelude.{◌≡◌, Bool, ◌&&◌, not, List, [], ◌∷◌, ltb, ℤ, ◌+ℤ◌, get_or, length, ◌≤ℤ◌}
use Rattle.std.proofs.Math.Path.{sym}
use Rattle.std.proofs.Math.Bool.{true, false, cond}
use Rattle.std.proofs.Math.Option.{Option}
use Rattle.std.proofs.Math.Dec.{T}
use Rattle.std.proofs.Math.IntN.{pos, +ℤ_idl, +ℤ_idr}
use Rattle.std.proofs.Math.ListN.{get_or-eq_default}
use Rattle.std.specs.Int.Signed.{le_z, ≤ℤ_refl, clash_ℤ}
use Rattle.meaning.specs.Limits.{attributes_limit}
use Rattle.meaning.specs.Base.{all, In}
use Rattle.meaning.specs.Grammar.{Condition, range, atmost}
use Rattle.meaning.specs.Value.{in_range, lowest, highest, added, holds}
use Rattle.meaning.specs.Differences.{bound}
use Rattle.meaning_statements.specs.CompareStatements.{value_in, Satisfiable, Edge, highest_edge, lowest_edge, high_edge, low_edge, atmost_edge, Walk, step, join, NegativeCycle}
use Rattle.theory_base.specs.Members.{both, all_in}
use Rattle.theory_differences.specs.Order.{≤-is, ≤_trans, through, cycle_not_negative, from_below}

-- the attributes of a condition have nodes
abbrev pub Node : ℕ → Type 0
Node a = (0 < a) × (a ≤ attributes_limit)

abbrev pub Known : Condition ℕ → Type 0
Known (range a l h) = Node a
Known (atmost a b c) = Node a × Node b

abbrev pub AllKnown : List (Condition ℕ) → Type 0
AllKnown cs = (c : Condition ℕ) → In c cs → Known c

-- ---- the limits of values

pub bound_there : (n a : ℕ) → a < n → bound n (suc a) ≡ highest
unfolding bound
bound_there n a h = rw (lt-ltb a n h)

pub bound_absent : (n a : ℕ) → n ≤ a → bound n (suc a) ≡ pos 0
unfolding bound
bound_absent n a h = rw (le-ltb a n h)

-- ---- values that meet the conditions keep every edge, and so every walk

abbrev pub node_value : List ℤ → ℕ → ℤ
node_value vs zero = pos 0
node_value vs (suc a) = get_or vs a (pos 0)

pub node_value_lem : (vs : List ℤ) (a : ℕ) → 0 < a → value_in vs a ≡ node_value vs a
node_value_lem vs zero h = absurd (omega arith)
node_value_lem vs (suc a) h = ap (λ (k : ℕ). get_or vs k (pos 0)) (omega arith)

-- i's value is at most j's plus w
abbrev pub Keeps : (ℕ → ℤ) → ℕ → ℕ → ℤ → Type 0
Keeps v i j w = v i ≤ℤ (v j +ℤ w)

pub at_most_zero_plus : (x w : ℤ) → x ≤ℤ w → x ≤ℤ (pos 0 +ℤ w)
at_most_zero_plus x w t = ≤_trans t (≤-is (sym (+ℤ_idl w)))

all_at : (f : ℤ → Bool) (vs : List ℤ) (a : ℕ) → T (all f vs) → a < length vs → T (f (get_or vs a (pos 0)))
all_at f [] a t h = absurd (omega arith)
all_at f (v ∷ vs) zero t h = (both (f v) (all f vs) t).0
all_at f (v ∷ vs) (suc a) t h = all_at f vs a (both (f v) (all f vs) t).1 (omega arith)

module _ (n : ℕ) (cs : List (Condition ℕ)) (known : AllKnown cs) (s : Satisfiable n cs) where
  abbrev value : ℕ → ℤ
  value i = node_value s.values i

  there : (a : ℕ) → a < n → T (in_range (value (suc a)))
  there a h = all_at in_range s.values a s.meets.ranged (omega (arith, s.meets.size))

  absent : (a : ℕ) → n ≤ a → value (suc a) ≡ pos 0
  absent a h = get_or-eq_default s.values (pos 0) {n = a} (omega (arith, s.meets.size))

  below_bound : (i : ℕ) → value i ≤ℤ bound n i
  unfolding bound
  below_bound zero = ≤ℤ_refl (pos 0)
  below_bound (suc a) = go (ltb a n) (λ t. there a (ltb→lt a n t)) (λ t. absent a (nltb→le a n t))
    where
      go : (b : Bool) → (T b → T (in_range (value (suc a)))) → (T (not b) → value (suc a) ≡ pos 0) → value (suc a) ≤ℤ cond b highest (pos 0)
      go true f g = record { le = (both (le_z lowest (value (suc a))) (le_z (value (suc a)) highest) (f tt)).1 }
      go false f g = ≤-is (g tt)

  above_bound : (i : ℕ) → pos 0 ≤ℤ (value i +ℤ bound n i)
  unfolding bound
  above_bound zero = ≤ℤ_refl (pos 0)
  above_bound (suc a) = go (ltb a n) (λ t. there a (ltb→lt a n t)) (λ t. absent a (nltb→le a n t))
    where
      go : (b : Bool) → (T b → T (in_range (value (suc a)))) → (T (not b) → value (suc a) ≡ pos 0) → pos 0 ≤ℤ (value (suc a) +ℤ cond b highest (pos 0))
      go true f g = from_below lowest (value (suc a)) (record { le = (both (le_z lowest (value (suc a))) (le_z (value (suc a)) highest) (f tt)).0 })
      go false f g = ≤-is (sym (g tt) ∙ sym (+ℤ_idr (value (suc a))))

  held : (c : Condition ℕ) → In c cs → T (holds (value_in s.values) c)
  held c m = all_in (holds (value_in s.values)) cs s.meets.each c m

  in_range_lem : (a : ℕ) (l h : ℤ) → In (range a l h) cs → T (le_z l (value a)) × T (le_z (value a) h)
  in_range_lem a l h m =
      let t = held (range a l h) m in
      let u : T (le_z l (value a) && le_z (value a) h) = rw (← node_value_lem s.values a (known (range a l h) m).0) t in
      both (le_z l (value a)) (le_z (value a) h) u

  at_most : (a b : ℕ) (c : Option ℤ) → In (atmost a b c) cs → T (le_z (value a) (value b +ℤ added c))
  at_most a b c m =
      let k = known (atmost a b c) m in
      rw (← node_value_lem s.values a k.0.0, ← node_value_lem s.values b k.1.0) (held (atmost a b c) m)

  pub edge_kept : {i j : ℕ} {w : ℤ} → Edge n cs i j w → Keeps (node_value s.values) i j w
  edge_kept (highest_edge i) = at_most_zero_plus _ _ (below_bound i)
  edge_kept (lowest_edge i) = above_bound i
  edge_kept (high_edge a l h m) = at_most_zero_plus _ _ (record { le = (in_range_lem a l h m).1 })
  edge_kept (low_edge a l h m) = from_below l (value a) (record { le = (in_range_lem a l h m).0 })
  edge_kept (atmost_edge a b c m) = record { le = at_most a b c m }

  pub walk_kept : {i j : ℕ} {w : ℤ} → Walk n cs i j w → Keeps (node_value s.values) i j w
  walk_kept (step e) = edge_kept e
  walk_kept (join {i} {k} {j} {x} {y} p q) = through (value i) (value k) (value j) x y (walk_kept p) (walk_kept q)

-- complete: the inequalities of a negative cycle add up to a contradiction
pub no_negative_cycle : (n : ℕ) (cs : List (Condition ℕ)) → AllKnown cs → Satisfiable n cs → NegativeCycle n cs → ⊥
no_negative_cycle n cs known s c = clash_ℤ c.negative (cycle_not_negative (node_value s.values c.node) c.sum (walk_kept n cs known s c.walk))
