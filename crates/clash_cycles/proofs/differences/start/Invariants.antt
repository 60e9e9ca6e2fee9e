use Prim.Native.Nat.{◌≤◌}
use mathlib.Core.Path.{◌≡◌}
use lib.ListN.{length}
use Rattle.clash_cycles.proofs.differences.Laws.{Filled}
use Rattle.clash_cycles.proofs.differences.start.Given as goal

abbrev pub invariant-loop-t : goal.invariant-loop-t
invariant-loop-t l = (l.t ≤ 81) × (length l.m ≡ 81) × Filled l.n l.t l.m
