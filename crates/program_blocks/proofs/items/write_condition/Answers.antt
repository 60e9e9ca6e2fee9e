use native.Mathlib.Omega.{arith}
use lib.ListN.{length-set}
use Rattle.program_block_words.specs.Laws as L
use Rattle.program_blocks.proofs.items.write_condition.Goals as goal

pub whole_word-requires : goal.whole_word-requires
whole_word-requires c = omega (arith, c.requires.1.bounds (omega (arith, c.byte_in.ensures.0)))

pub bounds-area-at-then-byte_in-eq0 : goal.bounds-area-at-then-byte_in-eq0
bounds-area-at-then-byte_in-eq0 c = simp length-set (omega arith)

pub whole_word-requires-then-byte_in-eq0 : goal.whole_word-requires-then-byte_in-eq0
whole_word-requires-then-byte_in-eq0 c = c.requires.1.bounds (omega (arith, c.byte_in.ensures.0))

pub bounds-area-at-then-byte_in-eq0-2 : goal.bounds-area-at-then-byte_in-eq0-2
bounds-area-at-then-byte_in-eq0-2 c = simp length-set (omega arith)

pub returns-then-byte_in-eq0 : goal.returns-then-byte_in-eq0
returns-then-byte_in-eq0 c =
    L.range_written _ _ _ _ _ _ _ _ _ _ c.byte_in.ensures.0 (omega arith) c.select_at-a.ensures.0 c.condition_word.ensures c.whole_word.ensures c.whole_word-then-byte_in-eq0.ensures

pub bounds-area-at-3 : goal.bounds-area-at-3
bounds-area-at-3 c = simp length-set (omega arith)

pub bounds-area-at-4 : goal.bounds-area-at-4
bounds-area-at-4 c = simp length-set (omega arith)

pub returns : goal.returns
returns c =
    let k = c.byte_in-kind.ensures.0 in
    L.atmost_written _ _ _ _ _ _ _ _ _ _ k (λ z. c.if-byte_in-eq0.false (omega (arith, z, k, c.byte_in.ensures.0))) c.select_at-a.ensures.0 c.select_at-b.ensures.0 c.condition_word-2.ensures c.offset.ensures
