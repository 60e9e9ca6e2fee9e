use Rattle.std.proofs.Common.{length, take, ◌*◌, ◌≤◌, ◌≡◌}
use Rattle.meaning.specs.Limits.{table_limit}
use Rattle.theory_order.specs.Planning.{copied}
use Rattle.house_copy.proofs.planned_length.Given as goal

abbrev pub invariant-loop-at : goal.invariant-loop-at
invariant-loop-at l = (l.sum ≡ length (copied l.table (take l.at-index l.order))) × (l.sum ≤ l.at-index * table_limit)
