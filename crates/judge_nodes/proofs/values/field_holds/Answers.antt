use Rattle.theory_judge.specs.Judged.{field_rule, field_condition}
use Rattle.judge_nodes.proofs.values.field_holds.Goals as goal

pub returns-then-byte_at-eq4 : goal.returns-then-byte_at-eq4
returns-then-byte_at-eq4 c = field_rule _ _ _ _ c.byte_at.ensures.0 c.if-byte_at-eq4.true c.rule_holds.ensures

pub returns-else-byte_at-eq4 : goal.returns-else-byte_at-eq4
returns-else-byte_at-eq4 c = field_condition _ _ _ _ c.byte_at.ensures.0 c.if-byte_at-eq4.false c.condition_holds.ensures
