use native.Mathlib.Omega.{arith}
use Rattle.program_block_words.specs.Laws as L
use Rattle.program_blocks.proofs.operands.second_operand.Goals as goal

pub returns-then-function-lt2 : goal.returns-then-function-lt2
returns-then-function-lt2 c = (L.second_few _ _ _ _ (omega arith), omega arith)

pub returns-then-function-gt6 : goal.returns-then-function-gt6
returns-then-function-gt6 c = (L.second_many _ _ _ _ (omega arith), omega arith)

pub select_at-requires : goal.select_at-requires
select_at-requires c = (omega arith, omega arith, c.requires.1 (omega arith))

pub returns : goal.returns
returns c = (L.second_some _ _ _ _ (omega arith) (omega arith) c.select_at.ensures.0, c.select_at.ensures.1)
