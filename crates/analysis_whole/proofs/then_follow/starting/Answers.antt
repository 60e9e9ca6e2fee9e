use Rattle.analysis.specs.TokenAgreeing.{below}
use Rattle.analysis.specs.Judged.{starts_found}
use Rattle.analysis_whole.proofs.then_follow.starting.Goals as goal

pub returns : goal.returns
returns c =
    λ g r n s m f.
    starts_found r _ _ _ _ m f (λ k. rw s at (c.follow_where.ensures k (rw n (below r)) (rw (n, s) r.sound.start))) c.all_starts.ensures
