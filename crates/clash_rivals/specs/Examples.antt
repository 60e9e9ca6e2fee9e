-- The test of two productions, by computation.
use Rattle.std.specs.Prelude.{◌≡◌, refl, Bool, true, false, List, [], ◌∷◌, ◌++◌, ℕ, replicate}
use Rattle.token_set.specs.SetBits.{set_of, bit}
use Rattle.clash_rivals.specs.Rivals.{start_together, rival}
use Rattle.clash_rivals.specs.intervals.Intervals.{leave_values}

-- productions 0 and 1 of one left side with one set; their ranges are 0 to 4 and 5 to 9, or 0 to 5 and 5 to 9
abbrev rivals : ℕ → List ℕ → Bool
rivals high ranks = rival (replicate 32 0) (1 ∷ 1 ∷ []) (replicate 8 0 ++ (5 ∷ replicate 7 0)) (high ∷ replicate 15 9) ranks 1 0

kept_apart : rivals 4 (1 ∷ 1 ∷ []) ≡ false
unfolding rival start_together leave_values set_of bit
kept_apart = refl

touching : rivals 5 (1 ∷ 1 ∷ []) ≡ true
unfolding rival start_together leave_values set_of bit
touching = refl

-- where one compares, or has no entry condition, the intervals do not tell
comparing : rivals 4 (1 ∷ 2 ∷ []) ≡ true
unfolding rival start_together leave_values set_of bit
comparing = refl

without_conditions : rivals 4 (0 ∷ 1 ∷ []) ≡ true
unfolding rival start_together leave_values set_of bit
without_conditions = refl
