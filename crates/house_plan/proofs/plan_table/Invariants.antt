use Rattle.std.proofs.Common.{take}
use Rattle.house_plan.proofs.Planning.{Goes}
use Rattle.house_plan.proofs.plan_table.Given as goal

abbrev pub invariant-loop-from : goal.invariant-loop-from
invariant-loop-from l = Goes l.table (take l.count l.offsets) l.plan l.n l.from-index
