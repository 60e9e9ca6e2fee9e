use Prim.Native.Nat.{ℕ, ◌≤◌, ◌<◌}
use mathlib.Core.Path.{◌≡◌}
use mathlib.Core.Bool.{false}
use Rattle.clash_rivals.specs.Rivals.{rival}
use Rattle.clash_rivals.proofs.next_rival.Given as goal

abbrev pub invariant-loop-earlier : goal.invariant-loop-earlier
invariant-loop-earlier l = (j : ℕ) → l.from ≤ j → j < l.earlier → rival l.rows l.sets l.kept.lows l.kept.highs l.kept.ranks l.later j ≡ false
