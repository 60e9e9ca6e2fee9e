use Prim.Native.Nat.{◌+◌, ◌*◌}
use Rattle.run_register_rules.specs.Straight.{Straight}
use Rattle.run_register_rules.proofs.copy_first.Given as goal

abbrev pub invariant-loop-i : goal.invariant-loop-i
invariant-loop-i l = Straight l.program l.at l.count l.height l.initial.registers l.i (l.at + 2 * l.i) l.registers
