use mathlib.Core.Path.{sym, ◌∙◌}
use Rattle.meaning.specs.PublicCalls.{stacks_of}
use Rattle.records.specs.Records.{state_is, handed_is}
use Rattle.inner.specs.declared.states.Call.TheVariants.{GiveUp}
use Rattle.inner.specs.stretch.Lending.{gave_up, call_by, call_by_engine}
use Rattle.inner.proofs.stretch.call_cells.Goals as goal

pub returns-then-gives_up : goal.returns-then-gives_up
returns-then-gives_up c =
    let a = c.args in
    let up = gave_up a.call (sym c.gives_up.ensures ∙ c.if-gives_up.true) in
    let k = c.call_cells in
    λ g s. call_by g (state_is a.brought) (stacks_of a.registers.now a.places.now) a.kinds.now a.values.now a.call GiveUp up (handed_is k.result k.new.registers k.new.places) (k.ensures g s)

pub returns : goal.returns
returns c =
    let a = c.args in
    let on = sym c.gives_up.ensures ∙ c.if-gives_up.false in
    let k = c.call_cells-2 in
    λ g s. call_by_engine g (state_is a.brought) (stacks_of a.registers.now a.places.now) a.kinds.now a.values.now a.call on c.engine_call.result c.engine_call.ensures (handed_is k.result k.new.registers k.new.places) (k.ensures g s)
