-- 02 (j): what a comparison says, its entry in the matrix, and the sign of a cycle.
use Rattle.std.specs.Prelude.{ℕ, zero, suc, ◌≡◌, refl, true, false, [], ◌∷◌, map, replicate, ℤ, pos, negsuc}
use Rattle.std.proofs.Math.Option.{none, some}
use Rattle.meaning.specs.Grammar.{atmost}
use Rattle.meaning.specs.Differences.{lesser, at, constrained, none_negative}
use Rattle.meaning.specs.Value.{holds}

-- ---- what it says: first at most second plus the constant

abbrev seven_and_ten : ℕ → ℤ
seven_and_ten zero = pos 7
seven_and_ten (suc k) = pos 10

at_most_plus : map (holds seven_and_ten) (atmost 1 0 (some (pos 3)) ∷ atmost 1 0 (some (pos 2)) ∷ atmost 0 1 (some (negsuc 2)) ∷ atmost 0 1 (some (negsuc 3)) ∷ atmost 0 1 none ∷ atmost 1 0 none ∷ atmost 0 0 (some (negsuc 0)) ∷ []) ≡ true ∷ false ∷ true ∷ false ∷ true ∷ false ∷ false ∷ []
at_most_plus = refl

-- ---- the matrix of conditions: an entry is lowered to the constant itself, and a cycle with the sum 0 is none that is negative

constrained_entry : at (constrained (atmost 1 2 (some (pos 3))) (replicate 81 (pos 9))) 1 2 ≡ pos 3
unfolding lesser
constrained_entry = refl

zero_diagonal : map none_negative (replicate 81 (pos 0) ∷ replicate 81 (negsuc 0) ∷ []) ≡ true ∷ false ∷ []
zero_diagonal = refl
