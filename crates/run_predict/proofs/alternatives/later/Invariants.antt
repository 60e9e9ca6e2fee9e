use Rattle.run_predict.specs.alternatives.Predicting.{Leads, turns}
use Rattle.run_moves.specs.Passing.{look_of}
use Rattle.run_registers.specs.Stack.{stack}
use Rattle.theory_program.specs.Search.{found}
use Rattle.meaning.specs.Grammar.{Grammar}
use Prim.Native.Nat.{ℕ}
use mathlib.Core.Path.{◌≡◌}
use Rattle.run_predict.proofs.alternatives.later.Given as goal

abbrev pub invariant-loop-p : goal.invariant-loop-p
invariant-loop-p l =
    (g : Grammar) (n : ℕ) → Leads g l.program (stack l.height l.registers) n l.from
    → Leads g l.program (stack l.height l.registers) n l.p × (found g (stack l.height l.registers) n (look_of l.look) l.from ≡ found g (stack l.height l.registers) n (look_of l.look) l.p)

abbrev pub decreases-loop-p : goal.decreases-loop-p
decreases-loop-p l = turns l.p
