use mathlib.Core.Path.{refl, ◌∙◌, ap}
use lib.ListN.{length}
use borrow.Author.Rules.{rules}
use Rattle.analysis.specs.Follows.{following, edges_short, follow_short, followed}
use Rattle.analysis_whole.proofs.follow.follow.Goals as goal

pub behinds-requires : goal.behinds-requires
behinds-requires c = (c.requires.0, c.add.ensures.size ∙ ap length c.requires.3, refl)

pub spread-requires : goal.spread-requires
spread-requires c =
    (c.behinds.ensures.edge.size, c.behinds.ensures.base.size ∙ c.add.ensures.size ∙ ap length c.requires.3, search rules)

pub returns : goal.returns
returns c =
    let t = following _ _ _ _ _ _ _ (rw c.requires.3 at c.add.ensures) c.behinds.ensures.base in
    let e = c.behinds.ensures.edge in
    λ b s. followed _ _ _ _ _ _ _ t e _ (c.spread.ensures.sets (edges_short _ _ _ _ _ _ _ t e _ b) (follow_short _ _ _ _ _ _ _ t e _ b s))
