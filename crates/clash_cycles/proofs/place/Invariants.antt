use Prim.Native.Nat.{◌*◌, ◌-◌, ◌≤◌}
use mathlib.Core.Path.{◌≡◌}
use lib.ListN.{length}
use Rattle.meaning.specs.Differences.{at}
use Rattle.clash_cycles.specs.Values.{Near, Placed}
use Rattle.clash_cycles.proofs.place.Given as goal

abbrev pub invariant-loop-k : goal.invariant-loop-k
invariant-loop-k l = (1 ≤ l.k) × (l.k ≤ 9) × (length l.v ≡ 9) × Placed (at l.m) (l.k - 1) l.v × Near ((l.k - 1) * 576460752303423488) l.v
