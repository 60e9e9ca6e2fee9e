-- A matrix that stands for a list of conditions; what its elimination says of them: values that meet them, or a negative cycle.
use Rattle.std.specs.Prelude.{ℕ, zero, suc, ◌+◌, ◌≤◌, ◌<◌, ◌≡◌, refl, ◌⊎◌, Bool, true, false, List, [], ◌∷◌, T, ℤ, pos, neg_ℤ, ◌+ℤ◌, get_or, length, ◌≤ℤ◌, ◌<ℤ◌}
use Rattle.std.proofs.Common.{arith, sym, ap, ◌∙◌, inl, inr}
use Rattle.std.proofs.Math.Decide.{ℕ_discrete, dec_lt}
use Rattle.std.proofs.Math.IntN.{+ℤ_idl}
use Rattle.std.proofs.Math.ListN.{get_or-eq_default}
use Rattle.std.specs.Int.Signed.{le_z}
use Rattle.meaning.specs.Limits.{attributes_limit}
use Rattle.meaning.specs.Base.{In}
use Rattle.meaning.specs.Grammar.{Condition, range, atmost}
use Rattle.meaning.specs.Value.{in_range, lowest, highest, added, holds}
use Rattle.meaning.specs.Differences.{bound, at, closing, closed}
use Rattle.theory_base.specs.Members.{and, in_all, at_all}
use Rattle.theory_differences.specs.Order.{≤-is, ≤_trans, plus_left, to_below, only_zero, decided}
use Rattle.meaning_statements.specs.CompareStatements.{value_in, Meets, Satisfiable, Edge, highest_edge, lowest_edge, high_edge, low_edge, atmost_edge, Walk, join, NegativeCycle}
use Rattle.theory_differences.specs.Graph.{Node, Known, AllKnown, bound_there, bound_absent, no_negative_cycle, Keeps}
use Rattle.theory_differences.specs.Solving.{NoneNegative, solution, solution_zero, solution_keeps}
use Rattle.theory_differences.specs.Closing.{closing_every, closing_lower, closing_eliminated, Every, Small}

-- each entry is the length of a walk, and no edge is shorter than its entry
pub record EntriesAreWalks (l : List ℤ) (n : ℕ) (cs : List (Condition ℕ)) : Type 0 where
  pub fits : n ≤ attributes_limit
  pub size : length l ≡ 81
  pub known : AllKnown cs
  pub walks : Every (Walk n cs) l
  pub covers : (i j : ℕ) (w : ℤ) → Edge n cs i j w → i < 9 → j < 9 → at l i j ≤ℤ w

-- ---- a negative entry on the diagonal is a cycle

pub cycle : (l : List ℤ) (n : ℕ) (cs : List (Condition ℕ)) → EntriesAreWalks l n cs → (k : ℕ) → k < 9 → at (closed l) k k <ℤ pos 0 → NegativeCycle n cs
unfolding closed
cycle l n cs s k p h = record { node = k; sum = at (closing l attributes_limit) k k; walk = closing_every (Walk n cs) (λ i k j x y. join) l attributes_limit s.size (omega arith) s.walks k k p p; negative = h }

-- ---- otherwise the solution of the eliminated matrix meets the conditions

-- the values of the nodes from `from` on
abbrev pub listed : (ℕ → ℤ) → ℕ → ℕ → List ℤ
listed v from zero = []
listed v from (suc c) = v from ∷ listed v (suc from) c

pub length_listed : (v : ℕ → ℤ) (from c : ℕ) → length (listed v from c) ≡ c
length_listed v from zero = refl
length_listed v from (suc c) = ap suc (length_listed v (suc from) c)

pub get_d_listed : (v : ℕ → ℤ) (from c a : ℕ) → a < c → get_or (listed v from c) a (pos 0) ≡ v (a + from)
get_d_listed v from zero a h = absurd (omega arith)
get_d_listed v from (suc c) zero h = ap v (omega arith)
get_d_listed v from (suc c) (suc a) h = get_d_listed v (suc from) c a (omega arith) ∙ ap v (omega arith)

module _ (n : ℕ) (cs : List (Condition ℕ)) (v : ℕ → ℤ) (z : v 0 ≡ pos 0) (k : (i j : ℕ) (w : ℤ) → Edge n cs i j w → i < 9 → j < 9 → Keeps v i j w) where
  high : (a : ℕ) (w : ℤ) → Keeps v a 0 w → v a ≤ℤ w
  high a w h = ≤_trans h (≤-is (ap (λ x. x +ℤ w) z ∙ +ℤ_idl w))

  low : (a : ℕ) (l : ℤ) → Keeps v 0 a (neg_ℤ l) → l ≤ℤ v a
  low a l h = to_below l (v a) (≤_trans (≤-is (sym z)) h)

  absent : (a : ℕ) → a < attributes_limit → n ≤ a → pos 0 ≡ v (suc a)
  absent a p h =
      let e = bound_absent n a h in
      only_zero (v (suc a)) (high (suc a) (pos 0) (rw e at (k (suc a) 0 (bound n (suc a)) (highest_edge (suc a)) (omega arith) (omega arith)))) (low (suc a) (pos 0) (rw e at (k 0 (suc a) (bound n (suc a)) (lowest_edge (suc a)) (omega arith) (omega arith))))

  -- the list reads as the nodes do, also past its end
  at_node : (a : ℕ) → a < attributes_limit → get_or (listed v 1 n) a (pos 0) ≡ v (suc a)
  at_node a p = go (dec_lt a n)
    where
      go : Dec (a < n) → get_or (listed v 1 n) a (pos 0) ≡ v (suc a)
      go (yes h) = get_d_listed v 1 n a h ∙ ap v (omega arith)
      go (no h) = get_or-eq_default (listed v 1 n) (pos 0) {n = a} (omega (arith, length_listed v 1 n)) ∙ absent a p (omega arith)

  read : (a : ℕ) → Node a → value_in (listed v 1 n) a ≡ v a
  read zero p = absurd (omega (arith, p.0))
  read (suc a) p = ap (λ (b : ℕ). get_or (listed v 1 n) b (pos 0)) (omega arith) ∙ at_node a (omega (arith, p.1))

  in_range_lem : (a : ℕ) → a < attributes_limit → a < n → T (in_range (get_or (listed v 1 n) a (pos 0)))
  in_range_lem a p h =
      let e = bound_there n a h in
      rw (at_node a p)
      (and (le_z lowest (v (suc a))) (le_z (v (suc a)) highest)
      (low (suc a) lowest (rw e at (k 0 (suc a) (bound n (suc a)) (lowest_edge (suc a)) (omega arith) (omega arith)))).le
      (high (suc a) highest (rw e at (k (suc a) 0 (bound n (suc a)) (highest_edge (suc a)) (omega arith) (omega arith)))).le)

  met : (c : Condition ℕ) → In c cs → Known c → T (holds (value_in (listed v 1 n)) c)
  met (range a l h) m p =
      let q = p.1 in
      rw (read a p)
      (and (le_z l (v a)) (le_z (v a) h)
      (low a l (k 0 a (neg_ℤ l) (low_edge a l h m) (omega arith) (omega arith))).le
      (high a h (k a 0 h (high_edge a l h m) (omega arith) (omega arith))).le)
  met (atmost a b c) m p =
      let q = p.0.1 in
      let r = p.1.1 in
      rw (read a p.0, read b p.1) (k a b (added c) (atmost_edge a b c m) (omega arith) (omega arith)).le

  pub satisfied : n ≤ attributes_limit → AllKnown cs → Meets n cs (listed v 1 n)
  satisfied f g = record {
    size = length_listed v 1 n;
    ranged = at_all in_range (pos 0) (listed v 1 n) (λ a h. in_range_lem a (omega (arith, h, length_listed v 1 n, f)) (omega (arith, h, length_listed v 1 n)));
    each = in_all (holds (value_in (listed v 1 n))) cs (λ c m. met c m (g c m));
  }

pub found : (l : List ℤ) (n : ℕ) (cs : List (Condition ℕ)) → EntriesAreWalks l n cs → NoneNegative (at (closed l)) 9 → Meets n cs (listed (solution (at (closed l)) attributes_limit) 1 n)
unfolding closed
found l n cs s h = satisfied n cs (solution M attributes_limit) (solution_zero M attributes_limit) keeps s.fits s.known
  where
    M : ℕ → ℕ → ℤ
    M = at (closing l attributes_limit)

    keeps : (i j : ℕ) (w : ℤ) → Edge n cs i j w → i < 9 → j < 9 → Keeps (solution M attributes_limit) i j w
    keeps i j w e p q =
        ≤_trans (solution_keeps M attributes_limit (closing_eliminated l attributes_limit s.size (omega arith)) h i j (omega arith) (omega arith))
        (plus_left (solution M attributes_limit j) (≤_trans (closing_lower l attributes_limit s.size (omega arith) i j q) (s.covers i j w e p q)))

-- ---- one or the other

pub data Diagonal (M : ℕ → ℕ → ℤ) (n : ℕ) : Type 0 where
  clear : NoneNegative M n → Diagonal M n
  negative : (k : ℕ) → k < n → M k k <ℤ pos 0 → Diagonal M n

pub diagonal : (M : ℕ → ℕ → ℤ) (n : ℕ) → Diagonal M n
diagonal M zero = clear (λ k h. absurd (omega arith))
diagonal M (suc n) = go (diagonal M n) (decided (pos 0) (M n n))
  where
    last : NoneNegative M n → pos 0 ≤ℤ M n n → (k : ℕ) → k < suc n → Dec (k ≡ n) → pos 0 ≤ℤ M k k
    last f h k p (yes e) = rw e h
    last f h k p (no d) = f k (omega arith)

    go : Diagonal M n → (pos 0 ≤ℤ M n n) ⊎ (M n n <ℤ pos 0) → Diagonal M (suc n)
    go (negative k p h) d = negative k (omega arith) h
    go (clear f) (inr h) = negative n (omega arith) h
    go (clear f) (inl h) = clear (λ k p. last f h k p (ℕ_discrete k n))

pub either : (l : List ℤ) (n : ℕ) (cs : List (Condition ℕ)) → EntriesAreWalks l n cs → Satisfiable n cs ⊎ NegativeCycle n cs
either l n cs s = go (diagonal (at (closed l)) 9)
  where
    go : Diagonal (at (closed l)) 9 → Satisfiable n cs ⊎ NegativeCycle n cs
    go (clear f) = inl (record { values = listed (solution (at (closed l)) attributes_limit) 1 n; meets = found l n cs s f })
    go (negative k p h) = inr (cycle l n cs s k p h)

-- ---- what the code says

-- the matrix stands for the conditions, and no sum of the elimination can overflow
abbrev pub limit : ℕ
limit = 2000000000000

pub record Matrix (l : List ℤ) (n : ℕ) (cs : List (Condition ℕ)) : Type 0 where
  pub stands : EntriesAreWalks l n cs
  pub small : Small limit l

-- values that meet the conditions, or a cycle with a negative sum
pub record Answers (r : Bool) (n : ℕ) (cs : List (Condition ℕ)) : Type 0 where
  pub met : r ≡ true → Satisfiable n cs
  pub unmet : r ≡ false → NegativeCycle n cs

pub never_both : (r : Bool) (n : ℕ) (cs : List (Condition ℕ)) → AllKnown cs → Answers r n cs → r ≡ false → Satisfiable n cs → ⊥
never_both r n cs known a e s = no_negative_cycle n cs known s (a.unmet e)
