use Rattle.theory_program.specs.Parts.{head_operation}
use Rattle.run_moves.specs.Moves.{count_if}
use borrow.Author.Tests.{eq-eqb, ne_eqb}
use lib.ListN.{get_or}
use mathlib.Core.Bool.{not}
use mathlib.Core.Path.{sym, ap, ◌∙◌}
use Rattle.meaning.specs.Program.{test_operation}
use Rattle.run_moves.proofs.pass_symbol.Goals as goal

pub returns-then-operation-ne-TEST : goal.returns-then-operation-ne-TEST
returns-then-operation-ne-TEST c =
    let a = c.args in
    c.count_symbol.ensures ∙ sym (ap (λ z. count_if (not z) a.height a.places.now) (ne_eqb (head_operation (get_or a.program.now a.at 0)) test_operation (λ e. c.if-operation-ne-TEST.true ((c.operation.ensures ∙ ap head_operation c.word_at.ensures.0) ∙ e))))

pub returns-else-operation-ne-TEST : goal.returns-else-operation-ne-TEST
returns-else-operation-ne-TEST c =
    let a = c.args in
    sym (ap (λ z. count_if (not z) a.height a.places.now) (eq-eqb (head_operation (get_or a.program.now a.at 0)) test_operation (sym (c.operation.ensures ∙ ap head_operation c.word_at.ensures.0) ∙ c.if-operation-ne-TEST.false)))
