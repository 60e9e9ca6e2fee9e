use Rattle.theory_program.specs.Parts.{head_operation}
use mathlib.Core.Path.{ap, ◌∙◌}
use Rattle.run_moves.specs.Passing.{coming_of, coming_look}
use Rattle.run_moves.specs.Held.{bounds, ready_as}
use mir.Facts.{to_z-of_z}
use native.Mathlib.Omega.{arith}
use Rattle.meaning.specs.Program.{add_operation, evaluate_operation, read_operation, predict_operation, test_operation, remove_operation}
use Rattle.run_one_move.proofs.make_move.Goals as goal

pub word_at-requires : goal.word_at-requires
word_at-requires c = (bounds c.requires.0.held).inside

pub add-requires : goal.add-requires
add-requires c = (c.args.places.now, ready_as add_operation (omega (arith, c.in-0.is, c.operation.ensures ∙ ap head_operation c.word_at.ensures.0)) c.requires.0)

pub evaluate-requires : goal.evaluate-requires
evaluate-requires c = (c.args.places.now, ready_as evaluate_operation (omega (arith, c.in-1.is, c.operation.ensures ∙ ap head_operation c.word_at.ensures.0)) c.requires.0)

pub read-requires : goal.read-requires
read-requires c = ready_as read_operation (omega (arith, c.in-2.is, c.operation.ensures ∙ ap head_operation c.word_at.ensures.0)) c.requires.0

pub predict-requires : goal.predict-requires
predict-requires c = (ready_as predict_operation (omega (arith, c.in-3.is, c.operation.ensures ∙ ap head_operation c.word_at.ensures.0)) c.requires.0, c.requires.2)

pub test-requires : goal.test-requires
test-requires c = ready_as test_operation (omega (arith, c.in-4.is, c.operation.ensures ∙ ap head_operation c.word_at.ensures.0)) c.requires.0

pub remove-requires : goal.remove-requires
remove-requires c =
    let p = c.requires in
    (ready_as remove_operation (omega (arith, c.operation.ensures ∙ ap head_operation c.word_at.ensures.0, p.1)) p.0, λ h l. absurd (omega (arith, l)))

pub returns-in-0 : goal.returns-in-0
returns-in-0 c = c.add.ensures c.args.places.now (coming_of c.args.look c.args.value)

pub returns-in-1 : goal.returns-in-1
returns-in-1 c = c.evaluate.ensures c.args.places.now
    (coming_of c.args.look c.args.value)

pub returns-in-2 : goal.returns-in-2
returns-in-2 c = rw (to_z-of_z c.ranges.value) at c.read.ensures

pub returns-in-3 : goal.returns-in-3
returns-in-3 c = let a = c.args in c.predict.ensures.0 (coming_of a.look a.value) (coming_look a.look a.value)

pub returns-in-4 : goal.returns-in-4
returns-in-4 c = c.test.ensures (coming_of c.args.look c.args.value)

pub returns-in_default : goal.returns-in_default
returns-in_default c = let a = c.args in c.remove.ensures.0 (coming_of a.look a.value)
