use Rattle.meaning.specs.Table.{grammar_of}
use mir.Syntax.{w32}
use mir.Val.{to_z, of_z}
use mir.Facts.{to_z-of_z}
use mathlib.Core.Path.{◌≡◌}
use mathlib.Core.Path.{ap, ◌∙◌}
use Rattle.meaning.specs.PublicCalls.{stacks_of}
use Rattle.meaning_preview.specs.Preview.{preview_of}
use Rattle.records.specs.Records.{handed_is}
use Rattle.engine.specs.Records.{record_is, effect_is}
use Rattle.prepare.specs.Beginning.{standing_shown, standing_readable, standing_called}
use Rattle.prepare.proofs.Beginning.{ready_case, turned_case}
use Rattle.preview.proofs.preview.Goals as goal

pub preview_cells-requires : goal.preview_cells-requires
preview_cells-requires c = standing_readable (ready_case c.begin.ensures c.in-Ready.is).1

pub returns-in-Turned : goal.returns-in-Turned
returns-in-Turned c =
    let b = c.begin in
    let a = c.args in
    let r = record_is a.record in
    let m = stacks_of a.registers.now a.places.now in
    let s = stacks_of a.scratch_registers.now a.scratch_places.now in
    turned_case b.ensures c.in-Turned.answer c.in-Turned.is r s (λ g. preview_of g r m s a.kind a.value)

pub returns-in-Ready : goal.returns-in-Ready
returns-in-Ready c =
    let k = c.preview_cells in
    let a = c.args in
    let b = c.begin in
    let d = (ready_case b.ensures c.in-Ready.is).1 in
    let r = record_is a.record in
    let m = stacks_of a.registers.now a.places.now in
    let s = stacks_of a.scratch_registers.now a.scratch_places.now in
    let g = grammar_of d.state in
    let v = to_z w32 (of_z w32 a.value) in
    let e : v ≡ a.value = to_z-of_z c.ranges.value in
    ap (λ z. effect_is z k.new.scratch_registers k.new.scratch_places b.new.program) c.hand_back.ensures
    ∙ standing_called d r s (λ g. preview_of g r m s a.kind a.value) (handed_is k.result k.new.scratch_registers k.new.scratch_places) (k.ensures g (standing_shown d) ∙ ap (preview_of g r m s a.kind) e)
