use Prim.Native.Nat.{◌≤◌}
use Rattle.meaning.specs.Differences.{at}
use Rattle.theory_differences.specs.Solving.{NoneNegative}
use Rattle.clash_cycles.proofs.differences.none_negative.Given as goal

abbrev pub invariant-loop-k : goal.invariant-loop-k
invariant-loop-k l = (l.k ≤ 9) × NoneNegative (at l.m) l.k
