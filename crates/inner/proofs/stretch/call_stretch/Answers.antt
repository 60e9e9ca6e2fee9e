use mathlib.Core.Path.{sym, ap, ◌∙◌}
use Rattle.meaning.specs.PublicCalls.{stacks_of, call_of}
use Rattle.meaning_inner.specs.Inner.{alone, engine_call}
use Rattle.records.specs.Records.{state_is}
use Rattle.inner.specs.states.Records.{call_is}
use Rattle.inner.specs.stretch.Lending.{clears, goes_on_is, ended_is}
use Rattle.inner.proofs.stretch.call_stretch.Goals as goal

pub returns-then-ends : goal.returns-then-ends
returns-then-ends c =
    let a = c.args in
    let m = stacks_of a.registers.now a.places.now in
    let f = c.call_cells-handed in
    let r = c.alone in
    let x = call_is a.call a.kinds.now a.values.now in
    let vs = c.clear_registers in
    let ps = c.clear_places in
    let q = c.ends in
    let l =
    clears a.registers.now f.new.registers vs.new.registers a.places.now f.new.places ps.new.places vs.ensures ps.ensures
    c.registers-1.given c.places-1.given in
    λ g s. ended_is a.call a.kinds.now a.values.now a.outer a.inner m f.result f.new.registers f.new.places (call_of g (alone (state_is a.inner)) m (engine_call x))
    (f.ensures g s ∙ ap (λ z. call_of g (state_is z) m (engine_call x)) r.ensures) (sym q.ensures ∙ c.if-ends.true) c.ended.result c.ended.ensures vs.new.registers ps.new.places l

pub returns : goal.returns
returns c =
    let a = c.args in
    let m = stacks_of a.registers.now a.places.now in
    let f = c.call_cells-handed in
    let r = c.alone in
    let x = call_is a.call a.kinds.now a.values.now in
    let q = c.ends in
    λ g s. goes_on_is a.call a.kinds.now a.values.now a.outer a.inner m f.result f.new.registers f.new.places (call_of g (alone (state_is a.inner)) m (engine_call x))
    (f.ensures g s ∙ ap (λ z. call_of g (state_is z) m (engine_call x)) r.ensures) (sym q.ensures ∙ c.if-ends.false) c.went_on.result c.went_on.ensures
