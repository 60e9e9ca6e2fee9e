-- One number that falls: 16 times the depth left, and for a list the symbols left besides.
use Prim.Native.Nat.{◌+◌, ◌*◌}
use Rattle.sheet.specs.tree.steps.Walks.{depth_left}
use Rattle.sheet.proofs.tree.+children_node.Given as goal

abbrev pub decreases-children : goal.decreases-children
decreases-children l = 16 * depth_left l.numbers.now + l.symbols_left

abbrev pub decreases-node : goal.decreases-node
decreases-node l = 16 * depth_left l.numbers.now
