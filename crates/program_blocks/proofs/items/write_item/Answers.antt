use Rattle.std.proofs.Common.{ap}
use Rattle.program_parts.specs.Items.{are_rules}
use Rattle.program_block_words.specs.Laws as L
use Rattle.program_block_words.specs.Patch.{wrote_as}
use Rattle.program_blocks.proofs.items.write_item.Goals as goal

pub returns-in-Rules : goal.returns-in-Rules
returns-in-Rules c = wrote_as (L.item_rule _ _ _ _ (ap are_rules c.in-Rules.is)) c.write_rule.ensures

pub returns-in-Conditions : goal.returns-in-Conditions
returns-in-Conditions c = wrote_as (L.item_condition _ _ _ _ (ap are_rules c.in-Conditions.is)) c.write_condition.ensures
