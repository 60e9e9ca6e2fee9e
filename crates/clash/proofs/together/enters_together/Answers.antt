use Rattle.std.proofs.Common.{arith}
use Rattle.meaning.specs.Grammar.{production_at}
use Rattle.outline.specs.Outline.{grammar_in}
use Rattle.clash.proofs.Laws.{ranges_free, differences_together, rank_small}
use Rattle.clash.proofs.together.enters_together.Goals as goal

pub returns-then-not-need_differences : goal.returns-then-not-need_differences
returns-then-not-need_differences c =
    let pre = c.requires in
    let g = grammar_in c.args.table.now in
    let h = c.need_differences.ensures.no c.if-not-need_differences.true in
    let l = rank_small (production_at g c.args.later) pre.own.2 in
    let m = rank_small (production_at g c.args.earlier) pre.other.2 in
    ranges_free _ _ _ _ pre.own.2 pre.other.2 (omega (arith, h, l, m, c.of_rank-own.ensures.said, c.of_rank.ensures.said)) pre.ranges

pub returns : goal.returns
returns c =
    let pre = c.requires in
    let h = c.need_differences.ensures.yes c.if-not-need_differences.false in
    differences_together _ _ pre.own.2 pre.other.2 (omega (arith, h, c.of_rank-own.ensures.said, c.of_rank.ensures.said)) c.leaves_differences.ensures
