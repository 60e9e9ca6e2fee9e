use mathlib.Core.Path.{ap, ◌∙◌}
use native.Mathlib.Omega.{arith}
use Rattle.meaning.specs.Sets.{singleton}
use Rattle.outline.specs.Images.{row_inside}
use Rattle.analysis.specs.Closing.{closes_not, closes_new, knows}
use Rattle.analysis.proofs.closing.close_by.Goals as goal

pub bounds-rights-k : goal.bounds-rights-k
bounds-rights-k c = omega (arith, c.requires.row.0.image.few, c.requires.row.0.listed)

pub left_of-requires : goal.left_of-requires
left_of-requires c =
    let row = c.requires.row.0 in
    row_inside row.image _ row.listed

pub of_nonterminal-requires : goal.of_nonterminal-requires
of_nonterminal-requires c =
    let row = c.requires.row.0 in
    omega (arith, c.left_of.ensures, row.image.lefts _ row.listed)

pub returns-then-lies_in : goal.returns-then-lies_in
returns-then-lies_in c =
    let pre = c.requires in
    λ count image lt. rw c.union-then-lies_in.ensures.word
    (closes_new _ image _ lt _ _ _ (rw c.union.ensures.word (knows _ _ pre.sets.0 pre.sets.1)) pre.row.1 _ (c.lies_in.ensures.inside c.if-lies_in.true) (c.of_nonterminal.ensures ∙ ap singleton c.left_of.ensures))

pub returns-else-lies_in : goal.returns-else-lies_in
returns-else-lies_in c =
    let pre = c.requires in
    λ count image lt. closes_not _ image _ lt _ _ _ (rw c.union.ensures.word (knows _ _ pre.sets.0 pre.sets.1)) pre.row.1 (c.lies_in.ensures.outside c.if-lies_in.false)
