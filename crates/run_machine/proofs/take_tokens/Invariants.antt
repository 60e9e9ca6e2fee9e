use Prim.Native.Nat.{◌-◌, ◌≤◌}
use mathlib.Core.Path.{◌≡◌}
use lib.ListN.{length}
use Rattle.meaning.specs.Machine.{moves_limit}
use Rattle.run_moves.specs.Returns.{Returns}
use Rattle.run_machine.specs.Flows.{Flows}
use Rattle.run_machine.proofs.take_tokens.Given as goal

abbrev pub invariant-loop-next : goal.invariant-loop-next
invariant-loop-next l =
    Flows l.bound l.most l.program l.kinds l.values l.initial.registers l.initial.places l.fn.run (l.state.tokens - l.fn.run.tokens) l.registers l.places l.state × (l.fn.run.tokens ≤ l.state.tokens) × (length l.registers ≡ length l.initial.registers) × (length l.places ≡ length l.initial.places) × Returns l.program l.returns × (length l.returns ≡ 32)

abbrev pub decreases-loop-next : goal.decreases-loop-next
decreases-loop-next l = moves_limit - l.state.moves
