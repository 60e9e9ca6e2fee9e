use Rattle.theory_program.specs.Parts.{head_operand}
use mathlib.Core.Path.{sym, ap, ◌∙◌}
use Rattle.run_moves.specs.Moves.{rules_here_lem, made_evaluate, blocked_evaluate}
use Rattle.run_moves.specs.Held.{bounds}
use native.Mathlib.Omega.{arith}
use Rattle.run_rules.proofs.evaluate.Goals as goal

pub word_at-requires : goal.word_at-requires
word_at-requires c = (bounds c.requires.1.held).inside

pub overflow_add-run : goal.overflow_add-run
overflow_add-run c = omega (arith, (bounds c.requires.1.held).inside)

pub is_common-requires : goal.is_common-requires
is_common-requires c =
    let o = c.before.before.before in
    let b = o.requires.1 in
    omega (arith, (rules_here_lem b.held b.operation).inside, c.if-n-eq1.true, (c.operand-n.ensures ∙ ap head_operand c.word_at.ensures.0))

pub evaluate_single-requires : goal.evaluate_single-requires
evaluate_single-requires c =
    let q = c.before.before.before in
    let t = q.before.before in
    let o = t.before in
    (o.requires, omega (arith, t.if-n-eq1.true, (c.operand-n.ensures ∙ ap head_operand c.word_at.ensures.0)), sym q.is_common.ensures ∙ c.if-is_common.true)

pub overflow_add-run-2 : goal.overflow_add-run-2
overflow_add-run-2 c = omega (arith, (bounds c.requires.1.held).inside)

pub evaluate-requires : goal.evaluate-requires
evaluate-requires c =
    let o = c.before.before.before.before in
    let b = o.requires.1 in
    let r = rules_here_lem b.held b.operation in
    ((bounds b.held).registers, rw (c.operand-n.ensures ∙ ap head_operand c.word_at.ensures.0) r.ready, rw (c.operand-n.ensures ∙ ap head_operand c.word_at.ensures.0) r.marked)

pub overflow_add-run-then-evaluate : goal.overflow_add-run-then-evaluate
overflow_add-run-then-evaluate c = omega (arith, (bounds c.requires.1.held).inside)

pub overflow_add-run-then-evaluate-2 : goal.overflow_add-run-then-evaluate-2
overflow_add-run-then-evaluate-2 c =
    let o = c.before.before.before.before.before.before.before.before in
    let b = o.requires.1 in
    omega (arith, (rules_here_lem b.held b.operation).inside, (c.operand-n.ensures ∙ ap head_operand c.word_at.ensures.0))

pub returns-then-evaluate : goal.returns-then-evaluate
returns-then-evaluate c = λ ps look g lent d h ok.
    let t = c.before.before.before in
    let e = t.before.before in
    let o = e.before.before.before.before in
    let b = o.requires.1 in
    rw (c.counted.ensures, (c.operand-n.ensures ∙ ap head_operand c.word_at.ensures.0)) (made_evaluate h look ok b.limit b.operation _ (rw ((c.operand-n.ensures ∙ ap head_operand c.word_at.ensures.0), t.if-evaluate.true) at e.evaluate.ensures))

pub returns : goal.returns
returns c = λ ps look g lent d h ok.
    let e = c.before.before.before in
    let o = e.before.before.before.before in
    let b = o.requires.1 in
    blocked_evaluate h look b.limit b.operation _ (rw ((c.operand-n.ensures ∙ ap head_operand c.word_at.ensures.0), c.if-evaluate.false) at e.evaluate.ensures)
