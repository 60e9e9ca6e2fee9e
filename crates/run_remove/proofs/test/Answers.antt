use Rattle.theory_program.specs.Parts.{head_operand}
use Rattle.run_moves.specs.Passing.{top_small}
use Rattle.run_moves.specs.Moves.{conditions_here_lem, made_test, blocked_test}
use Rattle.run_moves.specs.Held.{bounds}
use mathlib.Core.Path.{sym, ◌∙◌, ap}
use native.Mathlib.Omega.{arith}
use Rattle.run_remove.proofs.test.Goals as goal

pub word_at-requires : goal.word_at-requires
word_at-requires c = (bounds c.requires.held).inside

pub overflow_add-run : goal.overflow_add-run
overflow_add-run c = omega (arith, (bounds c.requires.held).inside)

pub test-requires : goal.test-requires
test-requires c = let b = c.requires in ((bounds b.held).registers, rw (c.operand-n.ensures ∙ ap head_operand c.word_at.ensures.0) (conditions_here_lem b.held b.operation).ready)

pub count_symbol-requires : goal.count_symbol-requires
count_symbol-requires c = let b = c.requires in let k = bounds b.held in (k.some_place, k.places, top_small b.held)

pub overflow_add-run-then-test : goal.overflow_add-run-then-test
overflow_add-run-then-test c = omega (arith, (bounds c.requires.held).inside)

pub overflow_add-run-then-test-2 : goal.overflow_add-run-then-test-2
overflow_add-run-then-test-2 c = let b = c.requires in omega (arith, (conditions_here_lem b.held b.operation).ready.inside, (c.operand-n.ensures ∙ ap head_operand c.word_at.ensures.0))

pub returns-then-test : goal.returns-then-test
returns-then-test c =
    let count = c.count_symbol in
    let if1 = c.if-test in
    let test = c.test in
    let operand = c.operand-n.ensures ∙ ap head_operand c.word_at.ensures.0 in
    let s = c.before.before.before.before.before.before.before.before.before.before.before.before.before.before in
    λ look g lent d h ok.
    let b = s.requires in
    rw (c.counted.ensures, operand, count.ensures) (made_test h look ok b.limit b.operation (rw operand at (sym if1.true ∙ test.ensures)))

pub returns : goal.returns
returns c = λ look g lent d h ok. let b = c.requires in blocked_test h look b.limit b.operation (rw (c.operand-n.ensures ∙ ap head_operand c.word_at.ensures.0) at (sym c.if-test.false ∙ c.test.ensures))
