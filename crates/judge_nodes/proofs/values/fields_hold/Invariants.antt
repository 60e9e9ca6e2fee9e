use Rattle.std.proofs.Common.{◌-◌, ◌≤◌, length}
use Rattle.theory_judge.specs.Marks.{read_at}
use Rattle.theory_judge.specs.Holding.{Going}
use Rattle.judge_nodes.proofs.values.fields_hold.Given as goal

abbrev pub invariant-loop-at : goal.invariant-loop-at
invariant-loop-at l = (l.at ≤ length l.fields) × Going (read_at l.sheet l.values l.marks) l.fields l.at

abbrev pub decreases-loop-at : goal.decreases-loop-at
decreases-loop-at l = length l.fields - l.at
