use native.Mathlib.Omega.{arith}
use Rattle.table_rules.proofs.Order.{order_tested}
use Rattle.table_rule_fields.proofs.conditions.in_order.Goals as goal

pub returns : goal.returns
returns c = order_tested _ _ (omega arith) (omega arith)
