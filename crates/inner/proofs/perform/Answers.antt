use Rattle.meaning.specs.PublicCalls.{stacks_of}
use Rattle.meaning_inner.specs.Inner.{inner_effect, inner_of}
use Rattle.records.specs.Records.{state_is}
use Rattle.prepare.specs.Beginning.{standing_shown, standing_readable}
use Rattle.prepare.proofs.Beginning.{ready_case}
use Rattle.inner.specs.states.Records.{call_is, inner_handed_is}
use Rattle.inner.specs.opening.Beginning.{turned_call, standing_call}
use Rattle.inner.proofs.perform.Goals as goal

pub call_above-requires : goal.call_above-requires
call_above-requires c = standing_readable (ready_case c.begin.ensures c.in-Ready.is).1

pub returns-in-Turned : goal.returns-in-Turned
returns-in-Turned c =
    let a = c.args in
    let b = c.begin in
    let m = stacks_of a.registers.now a.places.now in
    let x = call_is a.call a.kinds.now a.values.now in
    let o = state_is a.outer in
    let i = state_is a.inner in
    turned_call a.table.now a.program.now o i m (λ g words. inner_effect (inner_of g o i m x) words) b.ensures c.in-Turned.answer c.in-Turned.is

pub returns-in-Ready : goal.returns-in-Ready
returns-in-Ready c =
    let a = c.args in
    let f = c.call_above in
    let m = stacks_of a.registers.now a.places.now in
    let x = call_is a.call a.kinds.now a.values.now in
    let o = state_is a.outer in
    let i = state_is a.inner in
    let s = (ready_case c.begin.ensures c.in-Ready.is).1 in
    standing_call s o i m (λ g. inner_of g o i m x) (inner_handed_is f.result f.new.registers f.new.places) (f.ensures _ (standing_shown s))
