-- 01's starred cases, by computation.
use Rattle.std.specs.Prelude.{ℕ, ◌≡◌, refl, Bool, true, false, [], ◌∷◌, ◌++◌, pos, negsuc}
use Rattle.meaning.specs.Grammar.{Condition, range}
use Rattle.clash_entries.specs.conditions.BoundWords.{biased}
use Rattle.clash_entries.specs.conditions.EntryConditions.{raised, lowered, lowest, highest}
use Rattle.clash_rivals.specs.intervals.Intervals.{leave_values}

-- 01: "Ranges 0 to 4 and 5 to 9 don't clash ★; 0 to 5 and 5 to 9 do ★"
abbrev meets : Condition ℕ → Condition ℕ → Bool
meets c d = leave_values (raised (c ∷ []) lowest ++ raised (d ∷ []) lowest) (lowered (c ∷ []) highest ++ lowered (d ∷ []) highest) 0 1

ranges_apart : meets (range 1 (pos 0) (pos 4)) (range 1 (pos 5) (pos 9)) ≡ false
unfolding leave_values raised lowered biased
ranges_apart = refl

ranges_touching : meets (range 1 (pos 0) (pos 5)) (range 1 (pos 5) (pos 9)) ≡ true
unfolding leave_values raised lowered biased
ranges_touching = refl

negative : meets (range 1 (negsuc 4) (negsuc 1)) (range 1 (negsuc 0) (pos 9)) ≡ false
unfolding leave_values raised lowered biased
negative = refl

-- ranges on two attributes have no interval in common to be empty
two_attributes : meets (range 1 (pos 0) (pos 4)) (range 8 (pos 5) (pos 9)) ≡ true
unfolding leave_values raised lowered biased
two_attributes = refl
