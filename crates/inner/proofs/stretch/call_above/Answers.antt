use native.Mathlib.Omega.{arith}
use mathlib.Core.Path.{sym, ap, ◌∙◌}
use Rattle.refusals.specs.Numbers.{refusal_number, refusal_or_zero}
use Rattle.run_lent.specs.Judging.{refused_number}
use Rattle.meaning.specs.PublicCalls.{stacks_of}
use Rattle.records.specs.Records.{state_is}
use Rattle.inner.specs.states.Records.{call_is, inner_handed_is}
use Rattle.inner.specs.stretch.Lending.{turned_is, call_is_lem}
use Rattle.inner.proofs.stretch.call_above.Goals as goal

pub returns-in-Err : goal.returns-in-Err
returns-in-Err c =
    let a = c.args in
    let m = stacks_of a.registers.now a.places.now in
    let turned = ap refusal_or_zero c.in-Err.is in
    λ g s. ap (λ z. inner_handed_is (record { outer = a.outer; inner = a.inner; answer = z }) a.registers.now a.places.now) c.turned_back.ensures
    ∙ turned_is g (state_is a.outer) (state_is a.inner) m (call_is a.call a.kinds.now a.values.now) (refusal_number c.in-Err.refusal) (sym turned ∙ c.apart.ensures) (λ z. omega (arith, z, refused_number c.in-Err.refusal))

pub returns : goal.returns
returns c =
    let a = c.args in
    let r = c.smaller-n in
    let p = c.smaller-k in
    let rb = c.beginning-a in
    let pb = c.beginning-b in
    let f = c.call_stretch in
    λ g s. call_is_lem g a.outer a.inner (call_is a.call a.kinds.now a.values.now) (sym (ap refusal_or_zero c.in_default.is) ∙ c.apart.ensures) a.registers.now a.places.now r.result
    p.result rb.result pb.result r.ensures p.ensures rb.ensures pb.ensures f.result f.new.registers f.new.places (f.ensures g s)
