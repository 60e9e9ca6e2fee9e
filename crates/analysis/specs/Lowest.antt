-- The lowest of the first numbers that passes a test, where one does.
use Rattle.std.specs.Prelude.{ℕ, ◌≤◌, ◌<◌, ◌≡◌, Bool, T, Option, Some, None, MatchOption}
use Rattle.std.proofs.Common.{refl, arith}
use Rattle.analysis.specs.Numbers.{Found, Clear, found_here, found_none}

-- r is the lowest number below n that passes; none, and none passes
abbrev pub Lowest : (ℕ → Bool) → ℕ → Option ℕ → Type 0
Lowest f n r = MatchOption r (Clear f n) (λ i. (i < n) × T (f i) × Clear f i)

-- as a search over a range says it
pub lowest_in :
    (f : ℕ → Bool) (n : ℕ) (r : Option ℕ) → MatchOption r ((k : ℕ) → 0 ≤ k → k < n → T (f k) → ⊥) (λ i. (0 ≤ i) × (i < n) × T (f i) × ((k : ℕ) → 0 ≤ k → k < i → T (f k) → ⊥))
    → Lowest f n r
lowest_in f n None d = record { clear = λ j l. d j (omega arith) l }
lowest_in f n (Some i) d = (d.1, d.2, record { clear = λ j l. d.3 j (omega arith) l })

-- the same by another test
pub lowest_same : (f h : ℕ → Bool) (n : ℕ) (r : Option ℕ) → ((j : ℕ) → j < n → f j ≡ h j) → Lowest f n r → Lowest h n r
lowest_same f h n None k d = record { clear = λ j l t. d.clear j l (rw (k j l) t) }
lowest_same f h n (Some i) k d = (d.0, rw (← k i d.0) d.1, record { clear = λ j l t. d.2.clear j l (rw (k j (omega (arith, d.0))) t) })

-- the number that is found, or n
module _ (f : ℕ → Bool) (n : ℕ) where
  pub found_some_lowest : (i : ℕ) → Lowest f n (Some i) → Found f n i
  found_some_lowest i d = found_here f n i d.0 d.2 d.1

  pub found_no_lowest : Lowest f n None → Found f n n
  found_no_lowest d = found_none f n n refl d
