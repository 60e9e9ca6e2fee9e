use Rattle.meaning.specs.Table.{grammar_of}
use mir.Syntax.{w32}
use mir.Val.{to_z, of_z}
use mir.Facts.{to_z-of_z}
use mathlib.Core.Path.{◌≡◌, ap, ◌∙◌}
use Rattle.meaning.specs.PublicCalls.{stacks_of}
use Rattle.meaning_preview.specs.Preview.{may_of}
use Rattle.engine.specs.Records.{record_is}
use Rattle.prepare.specs.Beginning.{standing_shown, standing_readable}
use Rattle.prepare.proofs.Beginning.{ready_case}
use Rattle.preview.specs.May.{may_effect_is}
use Rattle.preview.specs.Beginning.{turned_mays, standing_mays}
use Rattle.preview.proofs.may_follow.Goals as goal

pub may_cells-requires : goal.may_cells-requires
may_cells-requires c = standing_readable (ready_case c.begin.ensures c.in-Ready.is).1

pub returns-in-Turned : goal.returns-in-Turned
returns-in-Turned c =
    let b = c.begin in
    let a = c.args in
    turned_mays a.table.now a.program.now (record_is a.record) (stacks_of a.registers.now a.places.now) (stacks_of a.scratch_registers.now a.scratch_places.now) a.value b.ensures c.in-Turned.answer c.in-Turned.is

pub returns-in-Ready : goal.returns-in-Ready
returns-in-Ready c =
    let k = c.may_cells in
    let a = c.args in
    let d = (ready_case c.begin.ensures c.in-Ready.is).1 in
    let r = record_is a.record in
    let m = stacks_of a.registers.now a.places.now in
    let s = stacks_of a.scratch_registers.now a.scratch_places.now in
    let g = grammar_of d.state in
    let v = to_z w32 (of_z w32 a.value) in
    let e : v ≡ a.value = to_z-of_z c.ranges.value in
    let w = c.begin.new.program in
    standing_mays a.table.now a.program.now r m s a.value d (may_effect_is k.result k.new.scratch_registers k.new.scratch_places w) (k.ensures g (standing_shown d) ∙ ap (λ z. may_of g r m s z w) e)
