use mathlib.Core.Path.{ap, ◌∙◌}
use Rattle.meaning.specs.Calls.{closed_record}
use Rattle.meaning.specs.PublicCalls.{stacks_of}
use Rattle.meaning_inner.specs.Inner.{inner_open_of}
use Rattle.records.specs.Records.{state_is}
use Rattle.prepare.specs.Beginning.{standing_shown}
use Rattle.prepare.proofs.Beginning.{area_long, ready_case}
use Rattle.inner.specs.states.Records.{inner_handed_is, inner_leaves}
use Rattle.inner.specs.opening.Beginning.{opened_inside, turned_call, standing_call}
use Rattle.inner.proofs.opening.open_inside.Goals as goal

pub open_above-requires : goal.open_above-requires
open_above-requires c = area_long (ready_case c.begin.ensures c.in-Ready.is).1

pub returns-in-Turned : goal.returns-in-Turned
returns-in-Turned c =
    let a = c.args in
    let b = c.begin in
    let m = stacks_of a.registers.now a.places.now in
    let o = state_is a.outer in
    let w = c.in-Turned in
    ap (λ z. inner_leaves z a.registers.now a.places.now b.new.program) c.not_opened.ensures ∙ turned_call a.table.now a.program.now o closed_record m (opened_inside o m) b.ensures w.answer w.is

pub returns-in-Ready : goal.returns-in-Ready
returns-in-Ready c =
    let a = c.args in
    let f = c.open_above in
    let m = stacks_of a.registers.now a.places.now in
    let o = state_is a.outer in
    let s = (ready_case c.begin.ensures c.in-Ready.is).1 in
    standing_call s o closed_record m (λ g. inner_open_of g o m) (inner_handed_is f.result f.new.registers f.new.places) (f.ensures _ (standing_shown s).begins)
