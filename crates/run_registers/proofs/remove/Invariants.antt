use mathlib.Core.Path.{◌≡◌}
use lib.ListN.{drop}
use Rattle.meaning.specs.Value.{mark}
use Rattle.meaning.specs.Calls.{lay}
use Rattle.run_registers.specs.Stack.{stack}
use Rattle.run_registers.proofs.remove.Given as goal

abbrev pub invariant-loop-i : goal.invariant-loop-i
invariant-loop-i l = l.registers ≡ lay l.height mark (drop l.i (stack l.height l.initial.registers)) l.initial.registers
