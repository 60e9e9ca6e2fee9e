use Prim.Native.Nat.{◌-◌, ◌≤◌}
use mathlib.Core.Path.{◌≡◌}
use lib.IntN.{◌+ℤ◌}
use Rattle.meaning.specs.Differences.{at}
use Rattle.theory_differences.specs.Solving.{least}
use Rattle.clash_cycles.specs.Values.{node_value}
use Rattle.clash_cycles.proofs.placed.Given as goal

abbrev pub invariant-loop-j : goal.invariant-loop-j
invariant-loop-j l = (1 ≤ l.j) × (l.j ≤ l.k) × (l.x ≡ least (λ i. node_value l.v i +ℤ at l.m l.k i) (l.j - 1))
