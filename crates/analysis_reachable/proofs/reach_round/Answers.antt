use Rattle.analysis.specs.Rounds.{forward_turn}
use Rattle.analysis_reachable.proofs.reach_round.Goals as goal

pub loop-k-preserved : goal.loop-k-preserved
loop-k-preserved c = forward_turn c.loop-k-test.true c.loop-k.invariant (c.reach_by-next.ensures _ c.loop-k-test.true)
