use native.Mathlib.Omega.{arith}
use Rattle.program_block_words.specs.Laws as L
use Rattle.program_blocks.proofs.operands.first_operand.Goals as goal

pub returns-then-function-eq0 : goal.returns-then-function-eq0
returns-then-function-eq0 c = (L.first_none _ _ _ _ (omega arith), omega arith)

pub returns : goal.returns
returns c = (L.first_some _ _ _ _ (omega arith) c.select_at.ensures.0, c.select_at.ensures.1)
