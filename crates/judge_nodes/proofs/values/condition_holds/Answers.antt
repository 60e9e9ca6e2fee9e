use borrow.Author.Rules.{sfits_of}
use Rattle.judge_nodes.proofs.numbers.Bits.{in_held}
use Rattle.theory_judge.specs.Judged.{range_is, compare_is}
use Rattle.value.proofs.Bits.{held}
use Rattle.judge_nodes.proofs.values.condition_holds.Goals as goal

pub returns-then-byte_at-eq0 : goal.returns-then-byte_at-eq0
returns-then-byte_at-eq0 c =
    range_is _ _ c.byte_at.result _ _ _ _ c.byte_at.ensures.0 c.if-byte_at-eq0.true (held (sfits_of c.occurrence-a.type_inv) c.occurrence-a.ensures.0)
    (held (sfits_of c.constant_at-low.type_inv) c.constant_at-low.ensures) (held (sfits_of c.constant_at-high.type_inv) c.constant_at-high.ensures) c.in_bounds.ensures

pub at_most_plus-requires : goal.at_most_plus-requires
at_most_plus-requires c =
    (in_held c.occurrence-b.result (sfits_of c.occurrence-b.type_inv) c.occurrence-b.ensures.1, in_held c.added.result (sfits_of c.added.type_inv) c.added.ensures.1)

pub returns : goal.returns
returns c =
    compare_is _ _ c.byte_at.result _ _ _ _ c.byte_at.ensures.0 c.if-byte_at-eq0.false (held (sfits_of c.occurrence-a.type_inv) c.occurrence-a.ensures.0)
    (held (sfits_of c.occurrence-b.type_inv) c.occurrence-b.ensures.0) (held (sfits_of c.added.type_inv) c.added.ensures.0) c.at_most_plus.ensures
