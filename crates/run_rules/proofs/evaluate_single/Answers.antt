use Rattle.run_moves.specs.Moves.{rules_here_lem, made_single, blocked_single}
use Rattle.run_moves.specs.Held.{bounds}
use Prim.Native.Nat.{ℕ, ◌+◌}
use mathlib.Core.Path.{subst}
use Rattle.run_registers.specs.Stack.{stack}
use Rattle.run_registers.specs.Read.{Evaluates}
use native.Mathlib.Omega.{arith}
use Rattle.run_rules.proofs.evaluate_single.Goals as goal

pub overflow_add-run : goal.overflow_add-run
overflow_add-run c = omega (arith, (bounds c.requires.0.1.held).inside)

pub evaluate_one-requires : goal.evaluate_one-requires
evaluate_one-requires c =
    let s = c.before.before.before.before in
    let b = s.requires.0.1 in
    ((bounds b.held).registers, subst (λ (n : ℕ). Evaluates s.args.program.now (s.args.run.at + 1) n (stack s.args.run.registers s.args.registers.now)) s.requires.1 (rules_here_lem b.held b.operation).ready, s.requires.2)

pub overflow_add-run-then-evaluate_one : goal.overflow_add-run-then-evaluate_one
overflow_add-run-then-evaluate_one c =
    let s = c.before.before.before.before.before.before.before.before in
    let b = s.requires.0.1 in
    omega (arith, (rules_here_lem b.held b.operation).inside, s.requires.1)

pub returns-then-evaluate_one : goal.returns-then-evaluate_one
returns-then-evaluate_one c = λ ps look g lent d h ok.
    let s = c.before.before.before.before.before.before.before.before.before in
    let b = s.requires.0.1 in
    rw c.counted.ensures (made_single h look b.limit b.operation s.requires.1 _ ok (rw c.if-evaluate_one.true at c.evaluate_one.ensures))

pub returns : goal.returns
returns c = λ ps look g lent d h ok.
    let s = c.before.before.before.before.before.before.before in
    let b = s.requires.0.1 in
    blocked_single h look b.limit b.operation s.requires.1 _ (rw c.if-evaluate_one.false at c.evaluate_one.ensures)
