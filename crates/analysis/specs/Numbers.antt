-- Tests of the numbers from one number on: all, some, and the lowest.
use Rattle.std.specs.Prelude.{ℕ, zero, suc, ◌+◌, ◌≤◌, ◌<◌, ◌≡◌, refl, ◌⊎◌, Bool, true, false, ◌&&◌, ◌||◌, not, T}
use Rattle.std.proofs.Math.Decide.{dec_lt, ℕ_discrete}
use Rattle.std.proofs.Common.{arith, ap, inl, inr}
use Rattle.std.proofs.Math.Option.{Option, none, some}
use Rattle.meaning.specs.Base.{all, any, count_from}
use Rattle.meaning.specs.Decide.{first_where}
use Rattle.theory_base.specs.Members.{and, both, or_cases, or_left, or_right, same_truth}
use Rattle.theory_sets.specs.Verdicts.{Result, searched}

module _ (f : ℕ → Bool) where
  pub all_count_lem : (k n : ℕ) → ((a : ℕ) → k ≤ a → a < k + n → T (f a)) → T (all f (count_from k n))
  all_count_lem k zero h = tt
  all_count_lem k (suc n) h = and (f k) (all f (count_from (suc k) n)) (h k (omega arith) (omega arith)) (all_count_lem (suc k) n (λ a l m. h a (omega arith) (omega arith)))

  pub count_all : (k n : ℕ) → T (all f (count_from k n)) → (a : ℕ) → k ≤ a → a < k + n → T (f a)
  count_all k zero t a l m = absurd (omega arith)
  count_all k (suc n) t a l m = go (ℕ_discrete a k) (count_all (suc k) n (both (f k) (all f (count_from (suc k) n)) t).1 a)
    where
      go : Dec (a ≡ k) → (suc k ≤ a → a < suc k + n → T (f a)) → T (f a)
      go (yes e) j = rw e (both (f k) (all f (count_from (suc k) n)) t).0
      go (no e) j = j (omega arith) (omega arith)

  pub any_count : (k n a : ℕ) → k ≤ a → a < k + n → T (f a) → T (any f (count_from k n))
  any_count k zero a l m t = absurd (omega arith)
  any_count k (suc n) a l m t = go (ℕ_discrete a k) (any_count (suc k) n a)
    where
      go : Dec (a ≡ k) → (suc k ≤ a → a < suc k + n → T (f a) → T (any f (count_from (suc k) n))) → T (f k || any f (count_from (suc k) n))
      go (yes e) j = or_left (f k) (any f (count_from (suc k) n)) (rw e at t)
      go (no e) j = or_right (f k) (any f (count_from (suc k) n)) (j (omega arith) (omega arith) t)

  pub count_any : (k n : ℕ) → T (any f (count_from k n)) → (a : ℕ) × (k ≤ a) × (a < k + n) × T (f a)
  count_any k zero t = absurd t
  count_any k (suc n) t = go (or_cases (f k) (any f (count_from (suc k) n)) t) (count_any (suc k) n)
    where
      go : T (f k) ⊎ T (any f (count_from (suc k) n)) → (T (any f (count_from (suc k) n)) → (a : ℕ) × (suc k ≤ a) × (a < suc k + n) × T (f a)) → (a : ℕ) × (k ≤ a) × (a < k + suc n) × T (f a)
      go (inl h) j = (k, omega arith, omega arith, h)
      go (inr h) j = let w = j h in (w.0, omega (arith, w.1), omega (arith, w.2), w.3)

-- tests that agree on the numbers below n
pub all_count_same : (f h : ℕ → Bool) (n : ℕ) → ((a : ℕ) → a < n → f a ≡ h a) → all f (count_from 0 n) ≡ all h (count_from 0 n)
all_count_same f h n k = same_truth (all f (count_from 0 n)) (all h (count_from 0 n)) (λ t. all_count_lem h 0 n (λ a l m. rw (← k a (omega arith)) (count_all f 0 n t a l m))) (λ t. all_count_lem f 0 n (λ a l m. rw (k a (omega arith)) (count_all h 0 n t a l m)))

-- r is the lowest number below n that passes, or n
pub record Found (f : ℕ → Bool) (n r : ℕ) : Type 0 where
  pub upto : r ≤ n
  pub passes : r < n → T (f r)
  pub before : (j : ℕ) → j < r → T (f j) → ⊥

-- none of the numbers below k passes
pub record Clear (f : ℕ → Bool) (k : ℕ) : Type 0 where
  pub clear : (j : ℕ) → j < k → T (f j) → ⊥

module _ (f : ℕ → Bool) where
  pub clear_none : Clear f 0
  clear_none = record { clear = λ j l. absurd (omega arith) }

  pub clear_more : (k : ℕ) → Clear f k → (T (f k) → ⊥) → Clear f (k + 1)
  clear_more k c n = record { clear = λ j l t. go j l t (dec_lt j k) }
    where
      here : (j : ℕ) → j ≡ k → T (f j) → ⊥
      here j e t = n (rw e at t)

      go : (j : ℕ) → j < k + 1 → T (f j) → Dec (j < k) → ⊥
      go j l t (yes m) = c.clear j m t
      go j l t (no m) = here j (omega arith) t

  pub found_here : (n k : ℕ) → k < n → Clear f k → T (f k) → Found f n k
  found_here n k l c t = record { upto = omega arith; passes = λ _. t; before = c.clear }

  pub found_none : (n k : ℕ) → k ≡ n → Clear f k → Found f n k
  found_none n k e c = record { upto = omega arith; passes = λ l. absurd (omega arith); before = c.clear }

  pub clear_any : (n : ℕ) → Clear f n → T (any f (count_from 0 n)) → ⊥
  clear_any n c t = let w = count_any f 0 n t in c.clear w.0 (omega (arith, w.2)) w.3

-- the same by another test
pub found_same : (f h : ℕ → Bool) (n r : ℕ) → ((j : ℕ) → j < n → f j ≡ h j) → Found f n r → Found h n r
found_same f h n r k d = record { upto = d.upto; passes = λ l. rw (← k r l) (d.passes l); before = λ j l t. d.before j l (rw (k j (omega (arith, d.upto))) t) }

-- what first_where answers
module _ (f : ℕ → Bool) where
  pub found_some : (n r : ℕ) → Found f n r → r < n → first_where f (count_from 0 n) ≡ some r
  found_some n r d l = go (first_where f (count_from 0 n)) (searched f 0 n)
    where
      equal : (i : ℕ) → Result f 0 n (some i) → Dec (i < r) → Dec (r < i) → i ≡ r
      equal i w (yes h) q = absurd (d.before i h w.2)
      equal i w (no h) (yes q) = absurd (w.3 r (omega arith) q (d.passes l))
      equal i w (no h) (no q) = omega arith

      go : (o : Option ℕ) → Result f 0 n o → o ≡ some r
      go (some i) w = ap some (equal i w (dec_lt i r) (dec_lt r i))
      go none w = absurd (w r (omega arith) (omega arith) (d.passes l))

  pub found_not : (n r : ℕ) → Found f n r → n ≤ r → first_where f (count_from 0 n) ≡ none
  found_not n r d l = go (first_where f (count_from 0 n)) (searched f 0 n)
    where
      go : (o : Option ℕ) → Result f 0 n o → o ≡ none
      go (some i) w = absurd (d.before i (omega (arith, w.1)) w.2)
      go none w = refl

-- not both
module _ (a b : Bool) where
  pub without_first : a ≡ false → T (not (a && b))
  without_first e = rw e tt

  pub without_second : b ≡ false → T (not (a && b))
  without_second e = rw e (go a)
    where
      go : (x : Bool) → T (not (x && false))
      go true = tt
      go false = tt

  pub with_both : a ≡ true → b ≡ true → T (not (a && b)) → ⊥
  with_both e f t = rw (e, f) at t
