use Rattle.std.proofs.Common.{◌≡◌, arith}
use Rattle.std.proofs.lemmas.Grind.{common_steps}
use Rattle.refusals.specs.Numbers.{fault_or_zero}
use Rattle.table_counts.proofs.Counting.{counting_more, counting_refused, counting_end}
use Rattle.table_counts.proofs.Faulty.{faulty}
use Rattle.table_counts.proofs.read_counts.Goals as goal

pub returns-in_err-map_err-clause-read : goal.returns-in_err-map_err-clause-read
returns-in_err-map_err-clause-read c = counting_refused _ _ _ _ c.loop-n.invariant (omega arith) _ _ _ c.requires.1 c.requires.2 c.judge_counts.ensures _ _ (grind (arith, common_steps)) (grind (arith, common_steps)) (grind (arith, common_steps, faulty))

pub loop-n-preserved : goal.loop-n-preserved
loop-n-preserved c =
    let fine : fault_or_zero c.judge_counts.result ≡ 0 = grind (arith, common_steps) in
    counting_more _ _ _ _ c.loop-n.invariant (omega arith) _ _ _ c.requires.1 c.requires.2 c.judge_counts.ensures fine (omega arith)

pub returns-clause-read : goal.returns-clause-read
returns-clause-read c = counting_end _ _ _ _ c.loop-n.invariant _ _ (omega arith)
