use mathlib.Core.Path.{refl, ap, ◌∙◌}
use Rattle.meaning.specs.Differences.{constrained}
use Rattle.meaning.specs.Grammar.{production_at}
use Rattle.outline.specs.Outline.{grammar_in}
use Rattle.clash_entries.specs.conditions.Walk.{after_all}
use Rattle.clash.proofs.Laws.{stretch_slice, closed_solvable}
use borrow.Author.Rules.{rules}
use Rattle.clash.proofs.together.leaves_differences.Goals as goal

pub constrain_by-requires : goal.constrain_by-requires
constrain_by-requires c = (search rules, (_, stretch_slice c.requires.2 _ refl))

pub constrain_by-requires-2 : goal.constrain_by-requires-2
constrain_by-requires-2 c = (search rules, (_, stretch_slice c.requires.3 _ refl))

pub satisfiable-requires : goal.satisfiable-requires
satisfiable-requires c =
    c.constrain_by-2.ensures.small (c.constrain_by.ensures.small c.start-m.ensures.1)

pub returns : goal.returns
returns c =
    let pre = c.requires in
    let g = grammar_in c.args.table.now in
    let later = production_at g c.args.later in
    let earlier = production_at g c.args.earlier in
    let p = stretch_slice pre.2 _ refl in
    let q = stretch_slice pre.3 _ refl in
    closed_solvable later earlier (c.constrain_by.ensures.met later p ∙ ap (after_all constrained later) c.start-m.ensures.0) (c.constrain_by-2.ensures.met earlier q) p.fits q.fits c.satisfiable.ensures
