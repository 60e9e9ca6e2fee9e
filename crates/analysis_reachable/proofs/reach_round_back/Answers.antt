use Rattle.std.proofs.Common.{arith}
use Rattle.analysis.specs.Rounds.{backward_turn}
use Rattle.analysis_reachable.proofs.reach_round_back.Goals as goal

pub loop-k-preserved : goal.loop-k-preserved
loop-k-preserved c = backward_turn c.loop-k.invariant (c.reach_by-next.ensures _ (omega arith))
