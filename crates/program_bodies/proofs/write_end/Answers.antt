use native.Mathlib.Omega.{arith}
use Rattle.program_block_words.specs.Patch.{wrote_length}
use Rattle.program_body_words.specs.Schemes as S
use Rattle.program_bodies.proofs.write_end.Goals as goal

pub whole_sum-sum-requires : goal.whole_sum-sum-requires
whole_sum-sum-requires c = (_, (_, (_, (_, c.requires.prepared))))

pub write_block-remove-requires : goal.write_block-remove-requires
write_block-remove-requires c =
    (omega (arith, S.sum_small c.requires (c.whole_sum-sum.ensures _ _ _ _) c.row_left.ensures.0 c.byte_at-own.ensures.0), S.end_block c.requires (c.whole_sum-sum.ensures _ _ _ _) c.row_left.ensures.0 c.byte_at-own.ensures.0)

pub overflow_add-own : goal.overflow_add-own
overflow_add-own c = omega (arith, S.sum_small c.requires (c.whole_sum-sum.ensures _ _ _ _) c.row_left.ensures.0 c.byte_at-own.ensures.0)

pub head-requires : goal.head-requires
head-requires c = (omega arith, omega (arith, S.sum_small c.requires (c.whole_sum-sum.ensures _ _ _ _) c.row_left.ensures.0 c.byte_at-own.ensures.0))

pub offset_bounds-area-remove : goal.offset_bounds-area-remove
offset_bounds-area-remove c = omega (arith, S.next_small c.requires (c.whole_sum-sum.ensures _ _ _ _) c.row_left.ensures.0 c.byte_at-own.ensures.0 c.write_block-remove.ensures)

pub bounds-area-remove : goal.bounds-area-remove
bounds-area-remove c =
    S.next_inside c.requires (c.whole_sum-sum.ensures _ _ _ _) c.row_left.ensures.0 c.byte_at-own.ensures.0 c.write_block-remove.ensures

pub overflow_add-result : goal.overflow_add-result
overflow_add-result c = omega (arith, S.next_small c.requires (c.whole_sum-sum.ensures _ _ _ _) c.row_left.ensures.0 c.byte_at-own.ensures.0 c.write_block-remove.ensures)

pub returns : goal.returns
returns c =
    λ x. S.end_written x (c.whole_sum-sum.ensures _ _ _ _) c.row_left.ensures.0 c.byte_at-own.ensures.0 c.write_block-remove.ensures c.head.ensures

pub shape_of-area : goal.shape_of-area
shape_of-area c = wrote_length (returns c c.requires)
