use Prim.Native.Nat.{◌-◌}
use mathlib.Core.Path.{◌≡◌}
use lib.ListN.{length}
use Rattle.meaning.specs.Machine.{moves_limit}
use Rattle.sheet.specs.tree.moves.NodeInMemory.{Going}
use Rattle.sheet.proofs.tree.moves.settle.Given as goal

abbrev pub invariant-loop-registers : goal.invariant-loop-registers
invariant-loop-registers l = Going l.program l.initial.registers l.initial.places l.initial.state l.registers l.places l.state × (length l.registers ≡ length l.initial.registers) × (length l.places ≡ length l.initial.places)

abbrev pub decreases-loop-registers : goal.decreases-loop-registers
decreases-loop-registers l = moves_limit - l.state.moves
