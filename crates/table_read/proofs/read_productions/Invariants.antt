use Prim.Native.Nat.{◌-◌}
use lib.ListN.{length}
use Rattle.table_production.specs.Rights.{RightsTo}
use Rattle.table_production.proofs.ProductionRows.{Reached}
use Rattle.table_read.proofs.read_productions.Given as goal

abbrev pub invariant-loop-done : goal.invariant-loop-done
invariant-loop-done l =
    Reached l.table l.from l.sizes.nonterminals l.sizes.carrying.0 l.inherited l.synthesized l.rows l.offsets l.p l.done.at l.done.rules l.done.conditions × RightsTo l.rows l.p l.words

abbrev pub decreases-loop-done : goal.decreases-loop-done
decreases-loop-done l = length l.table - l.done.at
