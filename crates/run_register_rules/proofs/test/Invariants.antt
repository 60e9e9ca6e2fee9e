use Prim.Native.Nat.{ℕ, ◌+◌, ◌-◌, ◌*◌}
use mathlib.Core.Path.{◌≡◌}
use mathlib.Core.Bool.{Bool}
use mathlib.Core.List.{List}
use lib.IntN.{ℤ}
use Rattle.meaning.specs.Base.{all}
use Rattle.meaning.specs.Grammar.{Condition}
use Rattle.meaning.specs.Machine.{read_register}
use Rattle.meaning.specs.Value.{holds}
use Rattle.run_registers.specs.Stack.{stack}
use Rattle.run_registers.specs.Read.{Tests, conditions_from}
use Rattle.run_register_rules.proofs.test.Given as goal

abbrev pub hold_all : List ℤ → List (Condition ℕ) → Bool
hold_all rs cs = all (holds (read_register rs)) cs

abbrev pub invariant-loop-i : goal.invariant-loop-i
invariant-loop-i l =
    Tests l.program (l.at + 3 * l.i) (l.count - l.i) (stack l.height l.registers)
    × (hold_all (stack l.height l.registers) (conditions_from l.program l.at l.count) ≡ hold_all (stack l.height l.registers) (conditions_from l.program (l.at + 3 * l.i) (l.count - l.i)))
