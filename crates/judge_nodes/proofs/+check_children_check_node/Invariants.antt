use Rattle.std.proofs.Common.{◌+◌, ◌*◌}
use Rattle.judge_nodes.specs.parts.Checked.{ChildrenPassed}
use Rattle.judge_nodes.proofs.+check_children_check_node.Given as goal

abbrev pub decreases-check_children : goal.decreases-check_children
decreases-check_children l = 2 * l.node.depth + 1

abbrev pub decreases-check_node : goal.decreases-check_node
decreases-check_node l = 2 * l.tree.depth

abbrev pub invariant-check_children-loop-k : goal.invariant-check_children-loop-k
invariant-check_children-loop-k l =
    ChildrenPassed l.table l.rows l.inh l.syn l.offsets l.kinds l.values l.sheet l.node.production l.node.behind l.node.from l.node.depth l.initial.marks l.k l.ends.next l.ends.end l.marks
