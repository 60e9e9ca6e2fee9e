use mir.Syntax.{w32}
use mir.Val.{to_z, of_z}
use mir.Facts.{to_z-of_z}
use mathlib.Core.Path.{subst}
use mathlib.Core.Path.{◌≡◌}
use Rattle.records.specs.Records.{state_is}
use Rattle.run_lent.specs.Performing.{judged_fitting, judged_running}
use Rattle.preview.specs.lent.Answering.{alike_cleared, tidied_is}
use Rattle.preview.specs.Answering.{SetAnswered, set_is}
use Rattle.preview.proofs.may_lent.Goals as goal

-- src/cells.rt:103:9
pub run_of-run-requires : goal.run_of-run-requires
run_of-run-requires c = (c.args.registers.now, judged_fitting c.requires.0)

-- src/cells.rt:104:5
pub collect-requires : goal.collect-requires
collect-requires c =
    let r = c.run_of-run in
    (judged_running c.requires.0 r.result r.ensures, alike_cleared c.requires.1 _ _ c.clear_registers.ensures c.clear_places.ensures)

-- src/cells.rt:89:1
pub returns : goal.returns
returns c =
    let a = c.args in
    let v = to_z w32 (of_z w32 a.value) in
    let e : v ≡ a.value = to_z-of_z c.ranges.value in
    let j = c.requires.0 in
    let r = c.run_of-run in
    let t = c.collect in
    let vs = a.registers.now in
    let ps = a.places.now in
    let rs = a.scratch_registers.now in
    let qs = a.scratch_places.now in
    λ g x. subst (λ z. SetAnswered g (state_is a.brought) vs ps rs qs z t.result.0 t.new.scratch_registers t.new.scratch_places) e (record {
      is_set = set_is j r.result r.ensures g x v t.result.0 t.ensures.0;
      is_tidy = tidied_is j.few j.little rs qs c.requires.1.registers c.requires.1.places t.new.scratch_registers t.new.scratch_places t.ensures.1;
    })
