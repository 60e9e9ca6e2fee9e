use Rattle.std.proofs.Common.{arith}
use Rattle.judge_nodes.specs.head.Laws as L
use Rattle.judge_nodes.proofs.head.heading.Goals.{then-length-at-via-then-length-at, then-length-at-via-else-length-at+then-length-at-2}
use Rattle.judge_nodes.proofs.head.heading.Goals as goal

pub returns-then-length-at : goal.returns-then-length-at
returns-then-length-at c = elim c.then-length-at.branch [
  | then-length-at-via-then-length-at w ↦ L.head_short _ _ _ _ _ _ _ _ _ c.byte_at.ensures.0 c.byte_at-2.ensures.0 (omega arith)
  | then-length-at-via-else-length-at+then-length-at-2 w ↦ L.head_cut _ _ _ _ _ _ _ _ _ c.byte_at.ensures.0 c.byte_at-2.ensures.0 (omega arith)
]

pub returns-then-row_count-p : goal.returns-then-row_count-p
returns-then-row_count-p c =
    L.head_unlisted _ _ _ _ _ _ _ _ _ c.byte_at.ensures.0 c.byte_at-2.ensures.0 _ c.word_at-p.ensures (omega arith)

pub left_of-requires : goal.left_of-requires
left_of-requires c = omega arith

pub returns-then-left_of-m : goal.returns-then-left_of-m
returns-then-left_of-m c =
    L.head_other _ _ _ _ _ _ _ _ _ c.byte_at.ensures.0 c.byte_at-2.ensures.0 _ c.word_at-p.ensures _ c.left_of.ensures c.if-left_of-m.true

pub returns-then-word_at-from : goal.returns-then-word_at-from
returns-then-word_at-from c =
    L.head_before _ _ _ _ _ _ _ _ _ c.byte_at.ensures.0 c.byte_at-2.ensures.0 _ c.word_at-p.ensures _ c.left_of.ensures _ c.word_at.ensures c.if-word_at-from.true

pub returns-then-not-are_values : goal.returns-then-not-are_values
returns-then-not-are_values c =
    L.head_far _ _ _ _ _ _ _ _ _ c.byte_at.ensures.0 c.byte_at-2.ensures.0 _ c.word_at-p.ensures _ c.left_of.ensures _ c.word_at.ensures _ c.are_values.ensures c.if-not-are_values.true

pub returns : goal.returns
returns c =
    L.head_found _ _ _ _ _ _ _ _ _ c.byte_at.ensures.0 c.byte_at-2.ensures.0 _ c.word_at-p.ensures _ c.left_of.ensures _ c.word_at.ensures _ c.are_values.ensures (omega arith) (omega arith)
    (omega arith) c.if-left_of-m.false c.if-word_at-from.false c.if-not-are_values.false _ c.word_at-2.ensures
