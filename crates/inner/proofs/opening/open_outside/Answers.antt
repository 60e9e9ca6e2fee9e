use mathlib.Core.Path.{ap, ◌∙◌}
use Rattle.meaning.specs.Calls.{closed_record}
use Rattle.meaning.specs.PublicCalls.{stacks_of}
use Rattle.records.specs.Records.{state_is}
use Rattle.prepare.specs.Beginning.{standing_shown, standing_readable}
use Rattle.prepare.proofs.Beginning.{ready_case}
use Rattle.inner.specs.states.Records.{inner_leaves}
use Rattle.inner.specs.opening.Beginning.{opened_over, turned_call, standing_opens}
use Rattle.inner.proofs.opening.open_outside.Goals as goal

pub open_over-requires : goal.open_over-requires
open_over-requires c = standing_readable (ready_case c.begin.ensures c.in-Ready.is).1

pub returns-in-Turned : goal.returns-in-Turned
returns-in-Turned c =
    let a = c.args in
    let b = c.begin in
    let m = stacks_of a.registers.now a.places.now in
    let o = state_is a.outer in
    let w = c.in-Turned in
    ap (λ z. inner_leaves z a.registers.now a.places.now b.new.program) c.not_opened.ensures ∙ turned_call a.outer_table.now a.program.now o closed_record m (opened_over a.inner_table.now o m) b.ensures w.answer w.is

pub returns-in-Ready : goal.returns-in-Ready
returns-in-Ready c =
    let a = c.args in
    let f = c.open_over in
    let m = stacks_of a.registers.now a.places.now in
    let s = (ready_case c.begin.ensures c.in-Ready.is).1 in
    standing_opens s a.inner_table.now (state_is a.outer) m (inner_leaves f.result f.new.registers f.new.places f.new.program) (f.ensures _ (standing_shown s))
