use mir.Syntax.{w32}
use mir.Val.{to_z, of_z}
use mir.Facts.{to_z-of_z}
use Rattle.meaning_preview.specs.Preview.{tried}
use mathlib.Core.Path.{◌≡◌, ap, ◌∙◌}
use Rattle.meaning.specs.PublicCalls.{stacks_of}
use Rattle.records.specs.Records.{state_is}
use Rattle.run_lent.specs.Performing.{judged_fitting, judged_running}
use Rattle.preview.specs.lent.Answering.{alike_cleared, tried_is}
use Rattle.preview.proofs.lent.preview_lent.Goals as goal

-- src/cells.rt:73:9
pub run_of-run-requires : goal.run_of-run-requires
run_of-run-requires c = (c.args.registers.now, judged_fitting c.requires.0)

-- src/cells.rt:75:9
pub attempt-requires : goal.attempt-requires
attempt-requires c =
    let r = c.run_of-run in
    (judged_running c.requires.0 r.result r.ensures, alike_cleared c.requires.1 _ _ c.clear_registers.ensures c.clear_places.ensures)

-- src/cells.rt:58:1
pub returns : goal.returns
returns c =
    let a = c.args in
    let v = to_z w32 (of_z w32 a.value) in
    let e : v ≡ a.value = to_z-of_z c.ranges.value in
    let j = c.requires.0 in
    let r = c.run_of-run in
    let t = c.attempt in
    λ g x. tried_is j.few j.little a.scratch_registers.now a.scratch_places.now c.requires.1.registers c.requires.1.places j r.result r.ensures g x a.kind v t.result t.ensures.0 c.fed.result
    c.fed.ensures t.new.scratch_registers t.new.scratch_places t.ensures.1 ∙ ap (tried g (state_is a.brought) (stacks_of a.registers.now a.places.now) (stacks_of a.scratch_registers.now a.scratch_places.now) a.kind) e
