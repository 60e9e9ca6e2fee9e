use mathlib.Core.Path.{refl}
use Rattle.table_rules.proofs.Laws.{uses_ready}
use Rattle.table_rule_fields.proofs.judge_rule_items.Goals as goal

pub rule_order-requires : goal.rule_order-requires
rule_order-requires c = uses_ready _ _ _ _ _ _ _ _ c.requires.0 c.requires.1 c.class_in-target.ensures c.in_ok-class_fault.ensures refl
