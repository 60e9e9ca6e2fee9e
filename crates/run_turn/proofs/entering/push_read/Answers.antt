use mathlib.Core.Path.{refl, sym, ap, ◌∙◌}
use lib.ListN.{get_or}
use borrow.Author.Tests.{eq-eqb, ne_eqb}
use Rattle.meaning.specs.Program.{test_operation}
use Rattle.theory_program.specs.Parts.{head_operation}
use Rattle.run_turn.specs.entering.Predicting.{pushed_passes}
use Rattle.run_turn.proofs.entering.push_read.Goals as goal

pub word_at-requires : goal.word_at-requires
word_at-requires c = c.requires.2

pub push-requires : goal.push-requires
push-requires c = let p = c.requires in (p.0, p.1)

pub returns-then-operation-eq-TEST : goal.returns-then-operation-eq-TEST
returns-then-operation-eq-TEST c =
    let a = c.args in
    rw (c.push.ensures, eq-eqb (head_operation (get_or a.program.now a.at 0)) test_operation (sym (c.operation.ensures ∙ ap head_operation c.word_at.ensures.0) ∙ c.if-operation-eq-TEST.true)) refl

pub returns-else-operation-eq-TEST : goal.returns-else-operation-eq-TEST
returns-else-operation-eq-TEST c =
    let a = c.args in
    rw (c.place.ensures, ne_eqb (head_operation (get_or a.program.now a.at 0)) test_operation (λ z. c.if-operation-eq-TEST.false ((c.operation.ensures ∙ ap head_operation c.word_at.ensures.0) ∙ z))) (sym (pushed_passes a.places.now a.height a.production c.requires.0))
