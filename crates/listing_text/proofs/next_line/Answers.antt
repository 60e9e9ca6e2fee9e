use Rattle.std.proofs.Common.{arith, ◌+◌, sym, ap, ◌∙◌}
use Rattle.listing_text.specs.LineOut.{emits_as, step_stop, step_rule, step_condition, step_add, step_remove, over_at_stop, line_at_step}
use Rattle.listing_text.specs.Tests.{inside_facts}
use Rattle.listing_lines.specs.Line.{add_line, remove_line}
use Rattle.theory_program.specs.Parts.{head_operation, head_operand}
use Rattle.listing_text.proofs.next_line.Goals as goal

pub returns-then-not-is_inside : goal.returns-then-not-is_inside
returns-then-not-is_inside c =
    let a = c.args in
    let ws = a.program.now in
    let s = c.settle-c in
    let d = s.result in
    let outside = sym c.is_inside.ensures.0 ∙ c.if-not-is_inside.true in
    (tt, over_at_stop ws a.cursor d s.ensures.1 a.out.now (step_stop ws d s.ensures.0 outside))

pub rule-requires : goal.rule-requires
rule-requires c =
    let i = inside_facts c.args.program.now c.settle-c.result (sym c.is_inside.ensures.0 ∙ c.if-not-is_inside.false) in
    (i.1, omega arith, omega arith)

pub returns-in-Rules : goal.returns-in-Rules
returns-in-Rules c =
    let a = c.args in
    let s = c.settle-c in
    let inside = sym c.is_inside.ensures.0 ∙ c.if-not-is_inside.false in
    line_at_step a.program.now a.cursor s.result s.ensures.1 (omega arith) (step_rule a.program.now s.result s.ensures.0 inside (omega arith) c.in-Rules.is) c.rule.ensures

pub condition-requires : goal.condition-requires
condition-requires c =
    let i = inside_facts c.args.program.now c.settle-c.result (sym c.is_inside.ensures.0 ∙ c.if-not-is_inside.false) in
    (i.1, omega arith, omega arith)

pub returns-in-Conditions : goal.returns-in-Conditions
returns-in-Conditions c =
    let a = c.args in
    let s = c.settle-c in
    let inside = sym c.is_inside.ensures.0 ∙ c.if-not-is_inside.false in
    line_at_step a.program.now a.cursor s.result s.ensures.1 (omega arith) (step_condition a.program.now s.result s.ensures.0 inside (omega arith) c.in-Conditions.is) c.condition.ensures

pub add-requires : goal.add-requires
add-requires c =
    let i = inside_facts c.args.program.now c.settle-c.result (sym c.is_inside.ensures.0 ∙ c.if-not-is_inside.false) in
    (i.1, i.2, omega arith)

pub returns-then-operation-eq-ADD : goal.returns-then-operation-eq-ADD
returns-then-operation-eq-ADD c =
    let a = c.args in
    let ws = a.program.now in
    let s = c.settle-c in
    let d = s.result in
    let inside = sym c.is_inside.ensures.0 ∙ c.if-not-is_inside.false in
    let e = c.index_of-head.ensures.0 ∙ c.word_or_zero.ensures in
    line_at_step ws a.cursor d s.ensures.1 (omega (arith, c.requires)) (step_add ws d s.ensures.0 inside (omega arith) (sym (c.operation.ensures ∙ ap head_operation e) ∙ c.if-operation-eq-ADD.true))
    (emits_as (ap (add_line d.production (d.passed + 1)) (c.operand-registers.ensures ∙ ap head_operand e)) c.add.ensures)

pub remove-requires : goal.remove-requires
remove-requires c = (c.is_inside.ensures.1 c.if-not-is_inside.false, omega arith)

pub returns : goal.returns
returns c =
    let a = c.args in
    let ws = a.program.now in
    let s = c.settle-c in
    let d = s.result in
    let inside = sym c.is_inside.ensures.0 ∙ c.if-not-is_inside.false in
    let e = c.index_of-head.ensures.0 ∙ c.word_or_zero.ensures in
    line_at_step ws a.cursor d s.ensures.1 (omega (arith, c.requires)) (step_remove ws d s.ensures.0 inside (omega arith) (λ z. c.if-operation-eq-ADD.false (c.operation.ensures ∙ (ap head_operation e ∙ z))))
    (emits_as (ap (remove_line d.production) (c.operand-registers.ensures ∙ ap head_operand e)) c.remove.ensures)
