use Rattle.std.proofs.Common.{◌≡◌, arith, Ok, Err}
use Rattle.std.proofs.lemmas.Grind.{common_steps}
use Rattle.std.proofs.lemmas.Result.{err_from_is_err_and}
use Rattle.checker.proofs.Cases.{accepted_case, refused_case, span_refused, span_said, span_inside}
use Rattle.checker.proofs.spans.span_of.Goals as goal

pub returns-in_err-sizes-clause-said : goal.returns-in_err-sizes-clause-said
returns-in_err-sizes-clause-said c =
    let p = err_from_is_err_and c.from_residual.result c.from_residual.ensures.1 in
    let refused : c.judge_table.result ≡ Err p.0 = grind (arith, common_steps) in
    rw p.1 (span_refused c.args.table.now c.args.p _ _ (refused_case _ _ _ _ _ _ _ c.judge_table.ensures _ refused))

pub returns-clause-said : goal.returns-clause-said
returns-clause-said c =
    let read : c.judge_table.result ≡ Ok c.in_ok-sizes.sizes = grind (arith, common_steps) in
    span_said _ _ _ _ _ _ _ (accepted_case _ _ _ _ _ _ _ c.judge_table.ensures _ read) _ _ c.span_in.ensures

pub returns-clause-inside : goal.returns-clause-inside
returns-clause-inside c =
    let read : c.judge_table.result ≡ Ok c.in_ok-sizes.sizes = grind (arith, common_steps) in
    span_inside _ _ _ _ _ _ _ (accepted_case _ _ _ _ _ _ _ c.judge_table.ensures _ read) _ _ c.span_in.ensures
