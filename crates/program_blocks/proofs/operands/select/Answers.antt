use native.Mathlib.Omega.{arith}
use Rattle.program_block_words.specs.Laws as L
use Rattle.program_blocks.proofs.operands.select.Goals as goal

pub returns-then-below-at : goal.returns-then-below-at
returns-then-below-at c = (L.selector_past _ _ _ _ (omega arith), omega arith)

pub returns-then-high-low : goal.returns-then-high-low
returns-then-high-low c = (L.selector_low _ _ _ _ (omega arith), omega arith)

pub returns : goal.returns
returns c = (L.selector_is _ _ _ _, omega arith)
