use Rattle.analysis.specs.Follows.{filled_then, bases_more, edges_more}
use Rattle.analysis_whole.proofs.follow.behinds.Goals as goal

pub loop-k-preserved : goal.loop-k-preserved
loop-k-preserved c =
    let iv = c.loop-k.invariant in
    let b = c.behind_by.ensures _ c.requires.0 c.loop-k-test.true in
    record { base = filled_then _ _ _ iv.base b.base (λ u. bases_more _ _ _ _ u _ _); edge = filled_then _ _ _ iv.edge b.edge (λ u. edges_more _ _ _ u _ _) }
