use mathlib.Core.Path.{ap, ◌∙◌}
use mir.Facts.{to_z-of_z}
use mir.Syntax.{w64}
use Rattle.meaning.specs.Program.{program_of}
use Rattle.meaning.specs.PublicCalls.{performs, finish}
use Rattle.meaning.specs.PublicCalls.{stacks_of}
use Rattle.host_numbers.specs.Lent.{answer_value, passed_on}
use borrow.Author.Rules.{sfits_of}
use Rattle.host.proofs.runs.segment_finish.Goals as goal

pub returns : goal.returns
returns c =
    let a = c.args in
    let e = ap (λ z. performs program_of a.table.now a.program.now z (stacks_of a.registers.now a.places.now) finish) c.brought.ensures in
    let q = c.finish-called.ensures ∙ e in
    let v = c.answer_value in
    (passed_on c.finish-called.result _ _ _ _ q _ _ _ c.pass_on.ensures, to_z-of_z {w = w64} (sfits_of v.type_inv) ∙ (v.ensures ∙ ap (λ z. answer_value z.answer) q))
