use native.Mathlib.Omega.{arith}
use mathlib.Core.Path.{◌≡◌, refl, sym, ap, ◌∙◌}
use borrow.Author.Rules.{sfits_of}
use mir.Syntax.{w64}
use mir.Val.{to_z, of_z}
use Rattle.meaning.specs.Calls.{is_mark}
use Rattle.theory_program.specs.Parts.{rule_target}
use Rattle.run_registers.specs.Stack.{stack, stack_length}
use Rattle.run_registers.specs.Read.{SelectorStands}
use Rattle.run_registers.proofs.Loops.{rules_inside, applies_turn, target_turn}
use Rattle.value.proofs.Bits.{held}
use Rattle.run_register_rules.proofs.Straight.{one_written, one_kept}
use Rattle.run_register_rules.proofs.evaluate_one.Goals as goal
use Rattle.std.proofs.Common.{get_or}

pub offset_bounds-program-at : goal.offset_bounds-program-at
offset_bounds-program-at c = omega (arith, rules_inside c.requires.1)

pub bounds-program-at : goal.bounds-program-at
bounds-program-at c = omega (arith, rules_inside c.requires.1)

pub overflow_add-constant : goal.overflow_add-constant
overflow_add-constant c = omega (arith, rules_inside c.requires.1)

pub offset_bounds-program-at-2 : goal.offset_bounds-program-at-2
offset_bounds-program-at-2 c = omega (arith, rules_inside c.requires.1)

pub bounds-program-at-2 : goal.bounds-program-at-2
bounds-program-at-2 c = omega (arith, rules_inside c.requires.1)

pub direct-v-requires : goal.direct-v-requires
direct-v-requires c =
    let a = c.args in
    (c.requires.0, applies_turn a.program.now a.at 1 0 (stack a.height a.registers.now) (omega arith) c.requires.1, c.requires.2)

pub returns-then-is_mark : goal.returns-then-is_mark
returns-then-is_mark c =
    let a = c.args in
    let back : to_z w64 (of_z w64 c.direct-v.result) ≡ c.direct-v.result = held (sfits_of c.direct-v.type_inv) refl in
    let tested : is_mark c.direct-v.result ≡ c.is_mark.result = sym (c.is_mark.ensures ∙ ap is_mark back) in
    one_kept a.program.now a.at a.height a.registers.now c.requires.0 c.requires.1 c.direct-v.result c.direct-v.ensures (tested ∙ c.if-is_mark.true)

pub overflow_sub-v : goal.overflow_sub-v
overflow_sub-v c =
    let a = c.args in
    let t : SelectorStands (stack a.height a.registers.now) (rule_target (get_or a.program.now a.at 0)) = target_turn a.program.now a.at 1 0 (stack a.height a.registers.now) (omega arith) c.requires.1 in
    omega (arith, t.1, c.rule_target-below.ensures, stack_length a.height a.registers.now c.requires.0)

pub bounds-registers-height : goal.bounds-registers-height
bounds-registers-height c =
    let a = c.args in
    let t : SelectorStands (stack a.height a.registers.now) (rule_target (get_or a.program.now a.at 0)) = target_turn a.program.now a.at 1 0 (stack a.height a.registers.now) (omega arith) c.requires.1 in
    omega (arith, t.0, t.1, c.rule_target-below.ensures, stack_length a.height a.registers.now c.requires.0)

pub returns : goal.returns
returns c =
    let a = c.args in
    let back : to_z w64 (of_z w64 c.direct-v.result) ≡ c.direct-v.result = held (sfits_of c.direct-v.type_inv) refl in
    let tested : is_mark c.direct-v.result ≡ c.is_mark.result = sym (c.is_mark.ensures ∙ ap is_mark back) in
    rw (back, c.rule_target-below.ensures) (one_written a.program.now a.at a.height a.registers.now c.requires.0 c.requires.1 c.direct-v.result c.direct-v.ensures (tested ∙ c.if-is_mark.false))
