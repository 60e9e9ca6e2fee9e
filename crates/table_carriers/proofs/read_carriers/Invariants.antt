use Prim.Native.Nat.{◌-◌}
use lib.ListN.{length}
use Rattle.table_carriers.proofs.Carrying.{Carrying}
use Rattle.table_carriers.proofs.read_carriers.Given as goal

abbrev pub invariant-loop-at : goal.invariant-loop-at
invariant-loop-at l = Carrying l.table l.from l.terminals l.at l.least l.carrying.0

abbrev pub decreases-loop-at : goal.decreases-loop-at
decreases-loop-at l = length l.table - l.at
