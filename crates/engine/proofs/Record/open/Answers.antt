use mathlib.Core.Path.{ap, ◌∙◌}
use Rattle.meaning.specs.PublicCalls.{stacks_of}
use Rattle.meaning.specs.Calls.{closed_record, open_of}
use Rattle.records.specs.Records.{handed_is}
use Rattle.engine.specs.Records.{effect_is, called_from}
use Rattle.prepare.specs.Beginning.{standing_shown, standing_called}
use Rattle.prepare.proofs.Beginning.{area_long, ready_case, turned_case}
use Rattle.engine.proofs.Record.open.Goals as goal

pub open_cells-requires : goal.open_cells-requires
open_cells-requires c = area_long (ready_case c.begin.ensures c.in-Ready.is).1

pub returns-in-Turned : goal.returns-in-Turned
returns-in-Turned c =
    let b = c.begin in
    let a = c.args in
    let m = stacks_of a.registers.now a.places.now in
    let t = c.in-Turned in
    ap (λ z. effect_is z a.registers.now a.places.now b.new.program) (c.hand_back.ensures ∙ ap called_from c.not_opened.ensures)
    ∙ turned_case b.ensures t.answer t.is closed_record m (λ g. open_of g m)

pub returns-in-Ready : goal.returns-in-Ready
returns-in-Ready c =
    let k = c.open_cells in
    let b = c.begin in
    let s = c.args in
    let a = (ready_case b.ensures c.in-Ready.is).1 in
    let m = stacks_of s.registers.now s.places.now in
    ap (λ z. effect_is z k.new.registers k.new.places b.new.program) c.hand_back-in-Ready.ensures ∙ standing_called a closed_record m (λ g. open_of g m) (handed_is k.result k.new.registers k.new.places) (k.ensures _ (standing_shown a).begins)
