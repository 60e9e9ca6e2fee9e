use native.Mathlib.Omega.{arith}
use Rattle.program_body_words.specs.Symbols as S
use Rattle.program_bodies.proofs.symbols.write_symbol.Goals as goal

pub row_symbol-symbol-requires : goal.row_symbol-symbol-requires
row_symbol-symbol-requires c = omega (arith, S.index_small c.requires)

pub write_add-from-requires : goal.write_add-from-requires
write_add-from-requires c =
    S.add_fits c.requires c.row_symbol-symbol.ensures.0 c.count_of-own.ensures c.count_of.ensures

pub write_block-expect-requires : goal.write_block-expect-requires
write_block-expect-requires c = (
  S.top_small c.requires c.row_symbol-symbol.ensures.0 c.count_of-own.ensures c.count_of.ensures c.word_or_zero-top.ensures,
  S.evaluate_fits c.requires c.row_symbol-symbol.ensures.0
      c.count_of-own.ensures c.count_of.ensures c.word_or_zero-top.ensures c.write_add-from.ensures,
)

pub overflow_cast-area : goal.overflow_cast-area
overflow_cast-area c = omega (arith, S.next_small c.requires c.row_symbol-symbol.ensures.0 c.count_of-own.ensures c.count_of.ensures c.word_or_zero-top.ensures c.write_add-from.ensures c.write_block-expect.ensures)

pub offset_bounds-area-expect : goal.offset_bounds-area-expect
offset_bounds-area-expect c = omega (arith, S.next_small c.requires c.row_symbol-symbol.ensures.0 c.count_of-own.ensures c.count_of.ensures c.word_or_zero-top.ensures c.write_add-from.ensures c.write_block-expect.ensures)

pub bounds-area-expect : goal.bounds-area-expect
bounds-area-expect c =
    S.next_inside c.requires c.row_symbol-symbol.ensures.0 c.count_of-own.ensures c.count_of.ensures c.word_or_zero-top.ensures c.write_add-from.ensures c.write_block-expect.ensures

pub overflow_sub-rest : goal.overflow_sub-rest
overflow_sub-rest c =
    S.own_below c.requires c.row_symbol-symbol.ensures.0 c.count_of-own.ensures c.count_of.ensures c.word_or_zero-top.ensures

pub overflow_add-test : goal.overflow_add-test
overflow_add-test c = omega (arith, S.next_small c.requires c.row_symbol-symbol.ensures.0 c.count_of-own.ensures c.count_of.ensures c.word_or_zero-top.ensures c.write_add-from.ensures c.write_block-expect.ensures)

pub overflow_add-k-3 : goal.overflow_add-k-3
overflow_add-k-3 c = omega (arith, S.index_small c.requires)

pub write_block-requires : goal.write_block-requires
write_block-requires c = (
  omega (arith, S.top_small c.requires c.row_symbol-symbol.ensures.0 c.count_of-own.ensures c.count_of.ensures c.word_or_zero-top.ensures),
  S.test_fits c.requires c.row_symbol-symbol.ensures.0
      c.count_of-own.ensures c.count_of.ensures c.word_or_zero-top.ensures c.write_add-from.ensures c.write_block-expect.ensures c.expect_head.ensures,
)

pub shape_of-area : goal.shape_of-area
shape_of-area c =
    S.symbol_size c.requires c.row_symbol-symbol.ensures.0 c.count_of-own.ensures c.count_of.ensures c.word_or_zero-top.ensures c.write_add-from.ensures c.write_block-expect.ensures c.expect_head.ensures c.write_block.ensures

pub returns : goal.returns
returns c =
    λ x. S.symbol_written x c.row_symbol-symbol.ensures.0 c.count_of-own.ensures c.count_of.ensures c.word_or_zero-top.ensures c.write_add-from.ensures c.write_block-expect.ensures c.expect_head.ensures c.write_block.ensures
