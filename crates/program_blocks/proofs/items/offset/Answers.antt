use native.Mathlib.Omega.{arith}
use Rattle.program_block_words.specs.Laws as L
use Rattle.program_blocks.proofs.items.offset.Goals as goal

pub returns-then-byte_in-eq1 : goal.returns-then-byte_in-eq1
returns-then-byte_in-eq1 c = L.compared_none _ _ c.byte_in.ensures.0 (omega arith)

pub whole_word-requires : goal.whole_word-requires
whole_word-requires c = c.requires.compared (λ z. c.if-byte_in-eq1.false (omega (arith, z, c.byte_in.ensures.0)))

pub returns : goal.returns
returns c = L.compared_some _ _ c.byte_in.ensures.0 (omega arith) c.whole_word.ensures
