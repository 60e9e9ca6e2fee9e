use Prim.Native.Nat.{◌+◌, ◌*◌}
use mathlib.Core.Path.{◌≡◌}
use mathlib.Core.List.{List}
use lib.IntN.{ℤ}
use lib.ListN.{length}
use Rattle.run_register_rules.proofs.Straight.{Remarking}
use Rattle.run_register_rules.proofs.mark_again.Given as goal

abbrev pub invariant-loop-i : goal.invariant-loop-i
invariant-loop-i l = (rs : List ℤ) × (length rs ≡ l.height) × Remarking l.program l.at l.count l.height l.initial.registers rs l.i (l.at + 2 * l.i) l.registers
