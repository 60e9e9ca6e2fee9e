use Prim.Native.Nat.{◌-◌, ◌≤◌}
use Rattle.preview.specs.scratch.Scratch.{Cleared}
use Rattle.preview.specs.collect.Collecting.{CollectedTo}
use Rattle.preview.proofs.collect.collect.Given as goal

abbrev pub invariant-loop-token : goal.invariant-loop-token
invariant-loop-token l =
    (l.token ≤ l.terminals) × CollectedTo l.program l.value l.registers l.places l.fn.run l.token l.set.0 × Cleared l.registers l.places l.scratch_registers l.scratch_places

abbrev pub decreases-loop-token : goal.decreases-loop-token
decreases-loop-token l =
    l.terminals - l.token
