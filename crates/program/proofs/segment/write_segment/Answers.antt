use native.Mathlib.Omega.{arith}
use Rattle.program_words.specs.Laws as L
use Rattle.program_block_words.specs.Patch.{wrote_length}
use Rattle.program.proofs.segment.write_segment.Goals as goal

pub overflow_cast-start : goal.overflow_cast-start
overflow_cast-start c =
    let x = c.requires.0.4 in
    omega (arith, (L.numbers_small x).0, (L.numbers_small x).1, (L.numbers_small x).2, (L.numbers_small x).3, L.start_small x)

pub overflow_mul-records : goal.overflow_mul-records
overflow_mul-records c =
    let x = c.requires.0.4 in
    omega (arith, (L.numbers_small x).0, (L.numbers_small x).1, (L.numbers_small x).2, (L.numbers_small x).3, L.start_small x)

pub overflow_add-records : goal.overflow_add-records
overflow_add-records c =
    let x = c.requires.0.4 in
    omega (arith, (L.numbers_small x).0, (L.numbers_small x).1, (L.numbers_small x).2, (L.numbers_small x).3, L.start_small x)

pub overflow_cast-records : goal.overflow_cast-records
overflow_cast-records c =
    let x = c.requires.0.4 in
    omega (arith, (L.numbers_small x).0, (L.numbers_small x).1, (L.numbers_small x).2, (L.numbers_small x).3, L.start_small x)

pub overflow_cast-terminals : goal.overflow_cast-terminals
overflow_cast-terminals c =
    let x = c.requires.0.4 in
    omega (arith, (L.numbers_small x).0, (L.numbers_small x).1, (L.numbers_small x).2, (L.numbers_small x).3, L.start_small x)

pub overflow_cast-result : goal.overflow_cast-result
overflow_cast-result c =
    let x = c.requires.0.4 in
    omega (arith, (L.numbers_small x).0, (L.numbers_small x).1, (L.numbers_small x).2, (L.numbers_small x).3, L.start_small x)

pub overflow_cast-productions : goal.overflow_cast-productions
overflow_cast-productions c =
    let x = c.requires.0.4 in
    omega (arith, (L.numbers_small x).0, (L.numbers_small x).1, (L.numbers_small x).2, (L.numbers_small x).3, L.start_small x)

pub overflow_cast-low : goal.overflow_cast-low
overflow_cast-low c = omega arith

pub overflow_cast-high : goal.overflow_cast-high
overflow_cast-high c = omega arith

pub head-head-requires : goal.head-head-requires
head-head-requires c =
    let x = c.requires.0.4 in
    (omega arith, omega (arith, (L.numbers_small x).0, (L.numbers_small x).1, (L.numbers_small x).2, (L.numbers_small x).3, L.start_small x))

pub put-next-requires : goal.put-next-requires
put-next-requires c = omega (arith, c.requires.1)

pub put-last-requires : goal.put-last-requires
put-last-requires c =
    omega (arith, c.requires.1, c.put-next.ensures.address, wrote_length c.put-next.ensures)

pub offset_bounds-area-last : goal.offset_bounds-area-last
offset_bounds-area-last c =
    omega (arith, c.requires.1, c.put-next.ensures.address, c.put-last.ensures.address, wrote_length c.put-next.ensures, wrote_length c.put-last.ensures)

pub bounds-area-last : goal.bounds-area-last
bounds-area-last c =
    omega (arith, c.requires.1, c.put-next.ensures.address, c.put-last.ensures.address, wrote_length c.put-next.ensures, wrote_length c.put-last.ensures)

pub overflow_add-result : goal.overflow_add-result
overflow_add-result c =
    omega (arith, c.requires.1, c.put-next.ensures.address, c.put-last.ensures.address, wrote_length c.put-next.ensures, wrote_length c.put-last.ensures)

pub returns : goal.returns
returns c =
    λ table inherited rows offsets x. L.segment_written x c.head-head.ensures c.byte_at-registers.ensures.0 (omega arith) c.put-next.ensures c.put-last.ensures

pub shape_of-area : goal.shape_of-area
shape_of-area c =
    wrote_length (returns c _ _ _ _ c.requires.0.4)
