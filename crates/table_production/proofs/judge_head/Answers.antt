use native.Mathlib.Omega.{arith}
use Rattle.table_production.proofs.Producing.{head_other}
use Rattle.table_production.proofs.judge_head.Goals as goal

pub returns-then-table-at-ne3 : goal.returns-then-table-at-ne3
returns-then-table-at-ne3 c = head_other _ _ _ _ c.requires.0 _ c.in-Some.ensures.whole (omega arith) c.requires.1 c.requires.2
