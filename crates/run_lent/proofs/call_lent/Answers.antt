use mathlib.Core.Path.{sym, ap, ◌∙◌}
use Rattle.meaning.specs.PublicCalls.{stacks_of, call_of}
use Rattle.records.specs.Records.{state_is, handed_is}
use native.Mathlib.Omega.{arith}
use Rattle.refusals.specs.Numbers.{refusal_number, refusal_or_zero}
use Rattle.records.specs.States.{brought_back}
use Rattle.run_lent.specs.Judging.{refused_number}
use Rattle.run_lent.specs.Performing.{call_is, call_turned}
use Rattle.run_lent.proofs.call_lent.Goals as goal

pub returns-in-Err : goal.returns-in-Err
returns-in-Err c =
    let a = c.args in
    let m = stacks_of a.registers.now a.places.now in
    let turned = ap refusal_or_zero c.in-Err.is in
    let back = c.as_brought.ensures ∙ ap (brought_back a.brought) c.turned_back-in-Err.ensures in
    λ g s. ap (λ z. handed_is z a.registers.now a.places.now) back ∙ call_turned g (state_is a.brought) m (refusal_number c.in-Err.refusal) (sym turned ∙ c.turned_back.ensures g s) (λ z. omega (arith, z, refused_number c.in-Err.refusal)) (call_is a.call a.kinds.now a.values.now)

pub feed_lent-requires : goal.feed_lent-requires
feed_lent-requires c = let p = c.requires in record { few = p.0; little = p.1; brought = p.2; passed = λ g s. sym (ap refusal_or_zero c.in_default.is) ∙ c.turned_back.ensures g s }

pub finish_lent-requires : goal.finish_lent-requires
finish_lent-requires c = let p = c.requires in record { few = p.0; little = p.1; brought = p.2; passed = λ g s. sym (ap refusal_or_zero c.in_default.is) ∙ c.turned_back.ensures g s }

pub returns-in-Feed : goal.returns-in-Feed
returns-in-Feed c =
    let a = c.args in
    let m = stacks_of a.registers.now a.places.now in
    λ g s. c.feed_lent.ensures g s ∙ ap (λ z. call_of g (state_is a.brought) m (call_is z a.kinds.now a.values.now)) (sym c.in-Feed.is)

pub returns-in-Finish : goal.returns-in-Finish
returns-in-Finish c =
    let a = c.args in
    let m = stacks_of a.registers.now a.places.now in
    λ g s. c.finish_lent.ensures g s ∙ ap (λ z. call_of g (state_is a.brought) m (call_is z a.kinds.now a.values.now)) (sym c.in-Finish.is)
