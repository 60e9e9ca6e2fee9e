use Rattle.std.proofs.Common.{sym, arith}
use Rattle.clash_cycles.proofs.differences.Laws.{bound_high, bound_off}
use Rattle.clash_cycles.proofs.differences.bound.Goals as goal

pub returns-then-node-n : goal.returns-then-node-n
returns-then-node-n c = (sym (bound_high c.args.n c.args.node (omega arith) (omega arith)), omega arith)

pub returns-else-node-ge1 : goal.returns-else-node-ge1
returns-else-node-ge1 c = (sym (bound_off c.args.n c.args.node (λ a b. omega arith)), omega arith)
