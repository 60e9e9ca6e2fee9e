use Rattle.std.proofs.Common.{arith, rules}
use Rattle.window_cells.proofs.Laws.{put_turn}
use Rattle.window_cells.proofs.put.Goals as goal

pub loop-i-preserved : goal.loop-i-preserved
loop-i-preserved c = put_turn c.args.cells.now c.loop-i.cells c.args.from.now c.loop-i.i _ (omega arith) (omega arith) (search rules) c.loop-i.invariant
