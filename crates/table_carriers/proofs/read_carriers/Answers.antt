use Rattle.std.proofs.Common.{◌≡◌, arith}
use Rattle.std.proofs.lemmas.Grind.{common_steps}
use Rattle.std.proofs.lemmas.Result.{err_from_is_err_and}
use Rattle.refusals.specs.Numbers.{fault_or_zero}
use Rattle.table_carriers.proofs.Carrying.{carrying_start, carrying_refused, carrying_more}
use Rattle.table_carriers.proofs.read_carriers.Goals as goal

pub loop-at-init : goal.loop-at-init
loop-at-init c = carrying_start _ _ _ (omega arith)

pub returns-in_err-map_err : goal.returns-in_err-map_err
returns-in_err-map_err c =
    let p = err_from_is_err_and c.from_residual.result c.from_residual.ensures.1 in
    rw p.1 (carrying_refused _ _ _ _ _ _ c.loop-at.invariant _ c.judge_carrier.ensures p.0 (grind (arith, common_steps)) (grind (arith, common_steps)) (grind arith))

pub loop-at-preserved : goal.loop-at-preserved
loop-at-preserved c =
    let fine : fault_or_zero c.judge_carrier.result ≡ 0 = grind (arith, common_steps) in
    rw c.union-carrying.ensures.word
    (carrying_more _ _ _ _ _ _ c.loop-at.invariant _ c.judge_carrier.ensures fine c.requires.1 _ _ c.of_token.ensures (omega arith))
