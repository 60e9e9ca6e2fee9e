use native.Mathlib.Omega.{arith}
use Rattle.program_words.specs.Sections as S
use Rattle.program_block_words.specs.Patch.{wrote_length}
use Rattle.program.proofs.record.write_record.Goals as goal

pub left_of-left-requires : goal.left_of-left-requires
left_of-left-requires c = let x = c.requires in omega (arith, x.here, x.rows_of.room)

pub size_of-size-requires : goal.size_of-size-requires
size_of-size-requires c = let x = c.requires in omega (arith, x.here, x.rows_of.room)

pub overflow_cast-low : goal.overflow_cast-low
overflow_cast-low c = omega arith

pub overflow_cast-high : goal.overflow_cast-high
overflow_cast-high c = omega (arith, c.set_at-set.ensures.1)

pub overflow_cast-from : goal.overflow_cast-from
overflow_cast-from c = omega (arith, c.requires.behind)

pub put-half-requires : goal.put-half-requires
put-half-requires c = omega (arith, c.requires.room)

pub overflow_add-scheme : goal.overflow_add-scheme
overflow_add-scheme c =
    omega (arith, S.scheme_small c.requires _ c.size_of-size.ensures.0)

pub overflow_mul-scheme : goal.overflow_mul-scheme
overflow_mul-scheme c =
    omega (arith, S.scheme_small c.requires _ c.size_of-size.ensures.0)

pub overflow_add-scheme-2 : goal.overflow_add-scheme-2
overflow_add-scheme-2 c =
    omega (arith, S.scheme_small c.requires _ c.size_of-size.ensures.0)

pub put-requires : goal.put-requires
put-requires c =
    omega (arith, c.requires.room, c.put-half.ensures.address, wrote_length c.put-half.ensures)

pub shape_of-area : goal.shape_of-area
shape_of-area c =
    wrote_length (S.record_written c.requires c.left_of-left.ensures c.size_of-size.ensures.0 c.set_at-set.ensures.0 c.set_at-set.ensures.1 c.put-half.ensures c.put.ensures)

pub returns : goal.returns
returns c =
    λ x. S.record_written x c.left_of-left.ensures c.size_of-size.ensures.0 c.set_at-set.ensures.0 c.set_at-set.ensures.1 c.put-half.ensures c.put.ensures
