use mathlib.Core.Path.{◌≡◌}
use lib.ListN.{take, drop}
use Rattle.meaning_sheet.specs.Sheet.{value_bytes}
use Rattle.theory_sheet.specs.Overlay.{overlay}
use Rattle.run_registers.specs.Stack.{stack}
use Rattle.sheet.proofs.tree.written.put_values.Given as goal

abbrev pub invariant-loop-i : goal.invariant-loop-i
invariant-loop-i l = (l.sheet ≡ overlay l.at (value_bytes (take l.i (drop l.above (stack l.height l.registers)))) l.initial.sheet)
