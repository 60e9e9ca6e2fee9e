use native.Mathlib.Omega.{arith}
use mathlib.Core.Path.{sym, ap, ◌∙◌}
use Rattle.meaning.specs.Calls.{closed_record}
use Rattle.meaning.specs.PublicCalls.{stacks_of}
use Rattle.refusals.specs.Numbers.{refusal_number, refusal_or_zero}
use Rattle.records.specs.Records.{state_is}
use Rattle.run_lent.specs.Judging.{refused_number}
use Rattle.inner.specs.states.Records.{inner_leaves, not_opened_from}
use Rattle.inner.specs.opening.Beginning.{called_inside, opened_inside, over_turned, over_fits}
use Rattle.inner.proofs.opening.open_over.Goals as goal

pub returns-in-Err : goal.returns-in-Err
returns-in-Err c =
    let a = c.args in
    let o = state_is a.outer in
    let m = stacks_of a.registers.now a.places.now in
    let turned = ap refusal_or_zero c.in-Err.is in
    let back = c.not_opened.ensures ∙ ap (not_opened_from a.outer) c.turned_back.ensures in
    λ g s. ap (λ z. inner_leaves z a.registers.now a.places.now a.program.now) back
    ∙ over_turned g o m a.program.now (called_inside a.table.now a.program.now o closed_record m (opened_inside o m)) (refusal_number c.in-Err.refusal) (sym turned ∙ c.judge.ensures g s) (λ z. omega (arith, z, refused_number c.in-Err.refusal))

pub returns-in-Ok : goal.returns-in-Ok
returns-in-Ok c =
    let a = c.args in
    let o = state_is a.outer in
    let m = stacks_of a.registers.now a.places.now in
    λ g s. c.open_inside.ensures ∙ over_fits g o m a.program.now (called_inside a.table.now a.program.now o closed_record m (opened_inside o m)) (refusal_or_zero c.judge.result) (c.judge.ensures g s) (ap refusal_or_zero c.in-Ok.is)
