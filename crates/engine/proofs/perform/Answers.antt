use mathlib.Core.Path.{ap, ◌∙◌}
use Rattle.meaning.specs.PublicCalls.{stacks_of, call_of}
use Rattle.records.specs.Records.{state_is, handed_is}
use Rattle.run_lent.specs.Performing.{call_is}
use Rattle.engine.specs.Records.{leaves_as}
use Rattle.prepare.specs.Beginning.{standing_shown, standing_readable, standing_called}
use Rattle.prepare.proofs.Beginning.{ready_case, turned_case}
use Rattle.engine.proofs.perform.Goals as goal

pub call_cells-requires : goal.call_cells-requires
call_cells-requires c = standing_readable (ready_case c.begin.ensures c.in-Ready.is).1

pub returns-in-Turned : goal.returns-in-Turned
returns-in-Turned c =
    let b = c.begin in
    let a = c.args in
    let m = stacks_of a.registers.now a.places.now in
    let q = call_is a.call a.kinds.now a.values.now in
    let t = c.in-Turned in
    ap (λ z. leaves_as z a.registers.now a.places.now b.new.program) c.as_brought.ensures
    ∙ turned_case b.ensures t.answer t.is (state_is a.state) m (λ g. call_of g (state_is a.state) m q)

pub returns-in-Ready : goal.returns-in-Ready
returns-in-Ready c =
    let k = c.call_cells in
    let s = c.args in
    let a = (ready_case c.begin.ensures c.in-Ready.is).1 in
    let m = stacks_of s.registers.now s.places.now in
    let q = call_is s.call s.kinds.now s.values.now in
    standing_called a (state_is s.state) m (λ g. call_of g (state_is s.state) m q) (handed_is k.result k.new.registers k.new.places) (k.ensures _ (standing_shown a))
