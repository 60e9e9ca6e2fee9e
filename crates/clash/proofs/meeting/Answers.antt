use Prim.Native.Nat.{◌<◌}
use Rattle.meaning.specs.Limits.{nonterminals_limit}
use Rattle.outline.specs.Images.{left_at}
use Rattle.clash.specs.Clashing.{seen_none, seen_next, meeting_none, meeting_next}
use Rattle.clash.proofs.meeting.Goals as goal

pub loop-k-init : goal.loop-k-init
loop-k-init c = (seen_none _ _, meeting_none _ _)

pub loop-k-preserved : goal.loop-k-preserved
loop-k-preserved c =
    let below : left_at c.args.rows.now c.loop-k.k < nonterminals_limit = c.requires.lefts _ c.loop-k-test.true in
    let inv = c.loop-k.invariant in
    let e = c.left_of-left.ensures in
    (rw (c.union.ensures.word, e) (seen_next _ _ _ _ below inv.0), rw c.union-met.ensures.word (meeting_next inv.0 inv.1 _ (rw e at c.crossing.ensures)))
