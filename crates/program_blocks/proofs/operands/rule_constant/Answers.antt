use native.Mathlib.Omega.{arith}
use Rattle.program_block_words.specs.Laws as L
use Rattle.program_blocks.proofs.operands.rule_constant.Goals as goal

pub whole_word-requires : goal.whole_word-requires
whole_word-requires c = c.requires.0 (omega arith)

pub returns-then-function-eq0 : goal.returns-then-function-eq0
returns-then-function-eq0 c = L.constant_first _ _ (omega arith) c.whole_word.ensures

pub returns-then-function-lt7 : goal.returns-then-function-lt7
returns-then-function-lt7 c = L.constant_none _ _ (omega arith) (omega arith)

pub whole_word-requires-2 : goal.whole_word-requires-2
whole_word-requires-2 c = c.requires.1 (omega arith)

pub returns : goal.returns
returns c = L.constant_second _ _ (omega arith) (omega arith) c.whole_word-2.ensures
