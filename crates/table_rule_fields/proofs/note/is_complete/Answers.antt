use mathlib.Core.Path.{sym, ◌∙◌}
use native.Mathlib.Omega.{arith}
use Rattle.table_rules.specs.Rule.{settled}
use Rattle.table_rules.proofs.Laws.{count_pass, count_fail, count_none}
use Rattle.table_rule_fields.proofs.note.is_complete.Goals as goal

pub returns-then-not-is_filled : goal.returns-then-not-is_filled
unfolding settled
returns-then-not-is_filled c = sym (c.loop-k.invariant ∙ count_fail _ _ _ (omega arith) (cc c.if-not-is_filled.true))

pub loop-k-preserved : goal.loop-k-preserved
unfolding settled
loop-k-preserved c = c.loop-k.invariant ∙ count_pass _ _ _ (omega arith) (cc c.if-not-is_filled.false)

pub returns : goal.returns
returns c = sym (c.loop-k.invariant ∙ count_none _ _ _ (omega arith))
