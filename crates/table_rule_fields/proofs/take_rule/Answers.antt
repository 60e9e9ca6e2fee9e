use mathlib.Core.Path.{refl}
use native.Mathlib.Omega.{arith}
use Rattle.table_rule_fields.proofs.note.Noting.{notes_refused, taken_target, notes_taken}
use Rattle.table_rules.proofs.Faults.{err_some}
use Rattle.table_rule_fields.proofs.take_rule.Goals as goal

pub returns-in_err-rule_fault-clause-noted : goal.returns-in_err-rule_fault-clause-noted
returns-in_err-rule_fault-clause-noted c = notes_refused _ _ _ (err_some c.from_residual.result c.from_residual.ensures.0)

pub bounds-body-0 : goal.bounds-body-0
bounds-body-0 c = omega (arith, (taken_target _ _ _ _ _ _ c.requires 0 c.in_ok-rule_fault.ensures refl).0)

pub bounds-body-1 : goal.bounds-body-1
bounds-body-1 c = omega (arith, (taken_target _ _ _ _ _ _ c.requires 0 c.in_ok-rule_fault.ensures refl).0)

pub note_down-requires : goal.note_down-requires
note_down-requires c =
    let target = taken_target _ _ _ _ _ _ c.requires 0 c.in_ok-rule_fault.ensures refl in
    (omega (arith, target.1), omega (arith, target.2), omega (arith, target.3))

pub returns-clause-noted : goal.returns-clause-noted
returns-clause-noted c = notes_taken _ _ _ _ _ _ c.requires 0 c.in_ok-rule_fault.ensures refl _ _ _ c.wide-position.ensures.0 c.wide-attribute.ensures.0 c.note_down.ensures
