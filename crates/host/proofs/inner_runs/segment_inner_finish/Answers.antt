use mathlib.Core.Path.{ap, ap₂, ◌∙◌}
use Rattle.meaning.specs.Program.{program_of}
use Rattle.meaning.specs.PublicCalls.{stacks_of, finish}
use Rattle.meaning_inner.specs.Inner as Inner
use Rattle.meaning_inner.specs.Inner.{InnerEffect, inner_performs}
use Rattle.host_numbers.specs.Lent.{answer_value}
use borrow.Author.Rules.{sfits_of}
use mir.Facts.{to_z-of_z}
use mir.Syntax.{w64}
use Rattle.host.specs.Both.{both_passed_on}
use Rattle.host.proofs.inner_runs.segment_inner_finish.Goals as goal

pub returns : goal.returns
returns c =
    let a = c.args in
    let f = c.finish_inner-ended in
    let outer = c.brought.ensures in
    let inner = c.brought-2.ensures in
    let e = ap₂ (λ z y. inner_performs program_of a.table.now a.program.now z y (stacks_of a.registers.now a.places.now) (Inner.engine finish)) outer inner in
    let q = f.ensures ∙ e in
    let v = c.answer_value in
    (both_passed_on f.result _ _ _ _ q _ _ _ _ c.pass_on.ensures, to_z-of_z {w = w64} (sfits_of v.type_inv) ∙ (v.ensures ∙ ap (λ (z : InnerEffect). answer_value z.answer) q))
