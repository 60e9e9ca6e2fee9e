use Prim.Native.Nat.{◌-◌}
use lib.ListN.{length}
use Rattle.table_items.specs.Progress.{Walking}
use Rattle.table_items.proofs.read_items.Given as goal

abbrev pub invariant-loop-note : goal.invariant-loop-note
invariant-loop-note l = Walking l.table l.fn.before.at l.offset l.width l.inh l.syn l.fn.before.rules l.fn.before.conditions l.fn.note l.note l.done.at l.done.rules l.done.conditions

abbrev pub decreases-loop-note : goal.decreases-loop-note
decreases-loop-note l = length l.table - l.done.at
