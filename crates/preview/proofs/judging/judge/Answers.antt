use native.Mathlib.Omega.{arith}
use borrow.Author.Rules.{rules}
use mathlib.Core.Path.{◌≡◌, sym, ap, ◌∙◌}
use Rattle.std.specs.Prelude.{Ok, Err}
use Rattle.meaning.specs.PublicCalls.{stacks_of}
use Rattle.refusals.specs.Numbers.{refusal_or_zero}
use Rattle.records.specs.Records.{state_is}
use Rattle.run_lent.specs.Judging.{refused_number}
use Rattle.preview.specs.judging.Judging.{copy_turned, copy_short, copy_on}
use Rattle.preview.proofs.judging.judge.Goals as goal

pub returns-in_err-judge_cells : goal.returns-in_err-judge_cells
returns-in_err-judge_cells c =
    let a = c.args in
    let r = state_is a.brought in
    let m = stacks_of a.registers.now a.places.now in
    let s = stacks_of a.scratch_registers.now a.scratch_places.now in
    let made : c.from_residual.result ≡ Err c.in_err-judge_cells.field-0.0 = search rules in
    let was : c.judge_cells.result ≡ Err c.in_err-judge_cells.field-0.0 = search rules in
    let n = ap refusal_or_zero made in
    λ g x. copy_turned g r m s (refusal_or_zero c.from_residual.result) (n ∙ (sym (ap refusal_or_zero was) ∙ c.judge_cells.ensures g x)) (λ z. omega (arith, z, n, refused_number c.in_err-judge_cells.field-0.0))

pub returns-then-is_short : goal.returns-then-is_short
returns-then-is_short c =
    let a = c.args in
    let r = state_is a.brought in
    let m = stacks_of a.registers.now a.places.now in
    let s = stacks_of a.scratch_registers.now a.scratch_places.now in
    let admitted : c.judge_cells.result ≡ Ok c.in_ok-judge_cells.field-0 = search rules in
    λ g x. copy_short g r m s (sym (c.judge_cells.ensures g x) ∙ ap refusal_or_zero admitted) (sym c.is_short.ensures ∙ c.if-is_short.true)

pub returns-else-is_short : goal.returns-else-is_short
returns-else-is_short c =
    let a = c.args in
    let r = state_is a.brought in
    let m = stacks_of a.registers.now a.places.now in
    let s = stacks_of a.scratch_registers.now a.scratch_places.now in
    let admitted : c.judge_cells.result ≡ Ok c.in_ok-judge_cells.field-0 = search rules in
    λ g x. copy_on g r m s (sym (c.judge_cells.ensures g x) ∙ ap refusal_or_zero admitted) (sym c.is_short.ensures ∙ c.if-is_short.false)
