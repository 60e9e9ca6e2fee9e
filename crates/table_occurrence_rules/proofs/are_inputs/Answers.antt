use mathlib.Core.Path.{subst}
use Prim.Native.Nat.{ℕ}
use native.Mathlib.Omega.{arith}
use Rattle.table_rules.specs.Rule.{operand_count, OperandsFit}
use Rattle.table_rule_fields.proofs.Sound.{fit_none, fit_one, fit_two}
use Rattle.table_occurrence_rules.proofs.Settling.{count_none, count_one, count_two, limit_at_least}
use Rattle.table_occurrence_rules.proofs.are_inputs.Goals as goal

pub returns-then-f-eq0 : goal.returns-then-f-eq0
returns-then-f-eq0 c = λ width inh syn i e. fit_none _ _ _ _ _ _ (limit_at_least c.args.position) (count_none _ c.if-f-eq0.true)

pub returns-then-f-ge7 : goal.returns-then-f-ge7
returns-then-f-ge7 c = λ width inh syn i e.
    subst (λ (x : ℕ). OperandsFit x width inh syn c.args.body.now (operand_count c.args.f)) c.limit_of-limit.ensures.2
    (fit_one _ _ _ _ _ _ (omega arith) (c.is_input.ensures width inh syn i c.if-not-is_input.false) (count_one c.args.f c.if-f-eq0.false (λ y z. omega arith)))

pub returns-else-f-ge7 : goal.returns-else-f-ge7
returns-else-f-ge7 c = λ width inh syn i e.
    let q = count_two c.args.f c.if-f-eq0.false (λ z. omega arith) (omega arith) in
    subst (λ (x : ℕ). OperandsFit x width inh syn c.args.body.now (operand_count c.args.f)) c.limit_of-limit.ensures.2
    (fit_two _ _ _ _ _ _ (omega arith) (c.is_input.ensures width inh syn i c.if-not-is_input.false) (omega arith) (c.is_input-else-f-ge7.ensures width inh syn i e))
