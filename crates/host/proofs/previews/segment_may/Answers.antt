use mathlib.Core.Path.{ap₂, ◌∙◌}
use mir.Facts.{to_z-of_z}
use Rattle.meaning.specs.Program.{program_of}
use Rattle.meaning.specs.PublicCalls.{stacks_of}
use Rattle.meaning_preview.specs.Preview.{mays}
use Rattle.host.specs.may_numbers.Previewed.{may_passed_on}
use Rattle.host.proofs.previews.segment_may.Goals as goal

pub returns : goal.returns
returns c =
    let a = c.args in
    let f = c.may_follow-may in
    let known = c.brought.ensures in
    let under = stacks_of a.registers.now a.places.now in
    let scratch = stacks_of a.scratch_registers.now a.scratch_places.now in
    let e = ap₂ (λ r w. mays program_of a.table.now a.program.now r under scratch w) known (to_z-of_z c.ranges.value) in
    may_passed_on f.result _ _ _ _ (f.ensures ∙ e) _ _ _ c.tokens_of.ensures c.may_number.ensures c.may_count.ensures
