use native.Mathlib.Omega.{arith}
use Rattle.table_counts.proofs.Steps.{counts_other}
use Rattle.table_counts.proofs.judge_counts.Goals as goal

pub returns-then-table-at-ne2 : goal.returns-then-table-at-ne2
returns-then-table-at-ne2 c = counts_other _ _ _ _ _ (omega arith) _ c.in-Some.ensures.whole (omega arith)
