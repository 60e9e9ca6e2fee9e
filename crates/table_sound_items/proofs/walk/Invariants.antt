use Prim.Native.Nat.{◌-◌}
use lib.ListN.{length}
use Rattle.table_sound_items.specs.Sound.{Sounding}
use Rattle.table_sound_items.proofs.walk.Given as goal

abbrev pub invariant-loop-at : goal.invariant-loop-at
invariant-loop-at l = Sounding l.table l.fn.from.at l.fn.from.rules l.fn.from.conditions l.inputs l.fn.settled l.settled l.at l.rules l.conditions

abbrev pub decreases-loop-at : goal.decreases-loop-at
decreases-loop-at l = length l.table - l.at
