use native.Mathlib.Omega.{arith}
use mathlib.Core.Path.{◌∙◌, ap, sym}
use Rattle.refusals.specs.Numbers.{fault_or_zero}
use Rattle.table_counts.proofs.Steps.{part_body}
use Rattle.table_rules.proofs.Faults.{on_err}
use Rattle.table_items.proofs.Walking.{use_rule, use_condition, fault_kept}
use Rattle.table_items.proofs.take_item.Goals as goal

pub returns-in-4-clause-taken : goal.returns-in-4-clause-taken
returns-in-4-clause-taken c =
    let pre = c.requires in
    let whole = c.in-Some.ensures.whole in
    let taken = c.take_rule.ensures in
    let number = ap fault_or_zero c.and.ensures ∙ fault_kept c.take_rule.result _ in
    rw (sym whole.size_is, number)
    (use_rule _ _ _ _ _ _ _ _ _ pre.0 pre.1 whole pre.2 _ (part_body c.args.table.now c.args.done.at c.in-Some.size) _ _ (omega arith) taken.judged taken.noted (on_err c.take_rule.result taken.same))

pub returns-in-5-clause-taken : goal.returns-in-5-clause-taken
returns-in-5-clause-taken c =
    let pre = c.requires in
    let whole = c.in-Some.ensures.whole in
    let number = ap fault_or_zero c.and-in-5.ensures ∙ fault_kept c.condition_fault.result _ in
    rw (sym whole.size_is, number)
    (use_condition _ _ _ _ _ _ _ _ _ pre.0 pre.1 whole pre.2 _ (part_body c.args.table.now c.args.done.at c.in-Some.size) _ (omega arith) c.condition_fault.ensures)
