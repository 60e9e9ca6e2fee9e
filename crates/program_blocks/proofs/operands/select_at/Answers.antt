use Rattle.program_block_words.specs.Laws as L
use Rattle.program_blocks.proofs.operands.select_at.Goals as goal

pub returns : goal.returns
returns c = (L.selector_at_lem _ _ _ _ _ _ _ c.select.ensures.0 c.byte_in-position.ensures.0 c.byte_in-attribute.ensures.0, c.select.ensures.1)
