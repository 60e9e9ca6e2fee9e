-- What the test of a diagonal says.
use Rattle.std.specs.Prelude.{ℕ, ◌<◌, ◌≡◌, Bool, true, false, List, ℤ, pos, ◌<ℤ◌}
use Rattle.meaning.specs.Differences.{at}
use Rattle.theory_differences.specs.Solving.{NoneNegative}

pub record Negative (l : List ℤ) : Type 0 where
  pub node : ℕ
  pub below : node < 9
  pub sum : at l node node <ℤ pos 0

pub record Tested (r : Bool) (l : List ℤ) : Type 0 where
  pub clear : r ≡ true → NoneNegative (at l) 9
  pub failed : r ≡ false → Negative l
