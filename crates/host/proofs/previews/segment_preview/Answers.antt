use mathlib.Core.Path.{ap₂, ◌∙◌}
use mir.Facts.{to_z-of_z}
use Rattle.meaning.specs.Program.{program_of}
use Rattle.meaning.specs.PublicCalls.{stacks_of}
use Rattle.meaning_preview.specs.Preview.{previews}
use Rattle.host_numbers.specs.Lent.{passed_on}
use Rattle.host.proofs.previews.segment_preview.Goals as goal

pub returns : goal.returns
returns c =
    let a = c.args in
    let f = c.preview-called in
    let known = c.brought.ensures in
    let under = stacks_of a.registers.now a.places.now in
    let scratch = stacks_of a.scratch_registers.now a.scratch_places.now in
    let e = ap₂ (λ r w. previews program_of a.table.now a.program.now r under scratch a.kind w) known (to_z-of_z c.ranges.value) in
    passed_on f.result _ _ _ _ (f.ensures ∙ e) _ _ _ c.pass_on.ensures
