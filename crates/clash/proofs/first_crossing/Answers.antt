use Rattle.std.proofs.Common.{◌<◌, sym, ◌∙◌}
use Rattle.meaning.specs.Limits.{nonterminals_limit}
use Rattle.outline.specs.Images.{left_at}
use Rattle.clash.specs.Clashing.{seen_none, seen_next, apart_none, apart_next, crossed}
use Rattle.clash.proofs.first_crossing.Goals as goal

pub loop-k-init : goal.loop-k-init
loop-k-init c = (seen_none _ _, apart_none _ _)

pub returns-then-meets : goal.returns-then-meets
returns-then-meets c =
    let iv = c.loop-k.invariant in
    (c.loop-k-test.true, iv.1, crossed iv.0 (rw c.left_of-at.ensures at (sym c.meets.ensures ∙ c.if-meets.true)))

pub loop-k-preserved : goal.loop-k-preserved
loop-k-preserved c =
    let below : left_at c.args.rows.now c.loop-k.k < nonterminals_limit = c.requires.lefts _ c.loop-k-test.true in
    let iv = c.loop-k.invariant in
    let e = c.left_of-at.ensures in
    (rw (c.union.ensures.word, e) (seen_next _ _ _ _ below iv.0), apart_next iv.0 iv.1 (rw e at (sym c.meets.ensures ∙ c.if-meets.false)))
