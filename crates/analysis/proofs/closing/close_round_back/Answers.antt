use Rattle.analysis.specs.Rounds.{forward_turn}
use Rattle.analysis.specs.Closing.{narrow_grown}
use Rattle.analysis.proofs.closing.close_round_back.Goals as goal

pub close_by-next-requires-clause-sets : goal.close_by-next-requires-clause-sets
close_by-next-requires-clause-sets c = (narrow_grown _ c.requires.0 _ _ c.loop-k.invariant.grown c.requires.2, c.requires.3)

pub loop-k-preserved : goal.loop-k-preserved
loop-k-preserved c = forward_turn c.loop-k-test.true c.loop-k.invariant (c.close_by-next.ensures _ c.requires.0 c.loop-k-test.true)
