use native.Mathlib.Omega.{arith}
use mathlib.Core.Path.{sym, ◌∙◌}
use Rattle.outline.specs.Images.{row_inside}
use Rattle.set_words.specs.Reaching.{reaches_not, reaches_new}
use Rattle.analysis_reachable.proofs.reach_by.Goals as goal

pub left_of-requires : goal.left_of-requires
left_of-requires c = let row = c.requires.0 in row_inside row.image _ row.listed

pub has-requires : goal.has-requires
has-requires c = let row = c.requires.0 in omega (arith, c.left_of.ensures, row.image.lefts _ row.listed)

pub returns-else-has : goal.returns-else-has
returns-else-has c =
    λ count lt. reaches_not c.args.rows.now _ lt _ (rw c.left_of.ensures at (sym c.has.ensures ∙ c.if-has.false))

pub bounds-rights-k : goal.bounds-rights-k
bounds-rights-k c = let row = c.requires.0 in omega (arith, row.image.few, row.listed)

pub returns-then-has : goal.returns-then-has
returns-then-has c =
    λ count lt. rw c.union.ensures.word
    (reaches_new c.args.rows.now _ lt _ _ (rw c.left_of.ensures at (sym c.has.ensures ∙ c.if-has.true)) c.requires.1)
