use Prim.Native.Nat.{◌+◌, ◌*◌, ◌≤◌}
use lib.ListN.{length}
use native.Mathlib.Omega.{arith}
use mathlib.Core.Path.{◌≡◌, sym, ap, ◌∙◌, subst}
use borrow.Author.Rules.{sfits_of}
use Rattle.meaning.specs.Machine.{read_register}
use Rattle.value.proofs.Bits.{held}
use Rattle.run_registers.specs.Stack.{stack, stack_length}
use Rattle.run_registers.proofs.Loops.{rules_inside}
use Rattle.run_register_rules.specs.Straight.{Straight}
use Rattle.run_register_rules.proofs.Straight.{straight_start, straight_target, straight_copy}
use Rattle.run_register_rules.proofs.copy_first.Goals as goal

pub loop-i-init : goal.loop-i-init
loop-i-init c =
    let a = c.args in
    let z : a.at + 2 * 0 ≡ a.at = omega arith in
    rw z (straight_start a.program.now a.at a.count a.height a.registers.now c.requires.0 c.requires.2 c.requires.1)

pub bounds-program-at : goal.bounds-program-at
bounds-program-at c = omega (arith, rules_inside c.loop-i.invariant.left)

pub shape_of-registers-then-rule_function-ne1 : goal.shape_of-registers-then-rule_function-ne1
shape_of-registers-then-rule_function-ne1 c = c.loop-i.invariant.same_length_value

pub returns-then-rule_function-ne1 : goal.returns-then-rule_function-ne1
returns-then-rule_function-ne1 c =
    (omega arith, c.loop-i.invariant)

pub overflow_cast-target : goal.overflow_cast-target
overflow_cast-target c = omega arith

pub read-v-requires : goal.read-v-requires
read-v-requires c =
    let a = c.args in
    let l = c.loop-i in
    let v = (straight_copy a.program.now a.at a.count a.height a.registers.now c.requires.0 c.requires.2 l.invariant c.loop-i-test.true (sym c.rule_function.ensures ∙ c.if-rule_function-ne1.false)).0 in
    let low : a.height ≤ length l.registers = omega (arith, l.invariant.same_length_value, c.requires.0) in
    rw c.rule_first.ensures (low, v.0, omega (arith, v.1, stack_length a.height l.registers low))

pub overflow_sub-v : goal.overflow_sub-v
overflow_sub-v c =
    let a = c.args in
    let k = straight_target a.program.now a.at a.count a.height a.registers.now c.requires.0 c.requires.2 c.loop-i.invariant c.loop-i-test.true in
    omega (arith, k.0, k.1, c.rule_target-target.ensures)

pub offset_bounds-registers-height : goal.offset_bounds-registers-height
offset_bounds-registers-height c = omega arith

pub bounds-registers-height : goal.bounds-registers-height
bounds-registers-height c =
    let a = c.args in
    let k = straight_target a.program.now a.at a.count a.height a.registers.now c.requires.0 c.requires.2 c.loop-i.invariant c.loop-i-test.true in
    omega (arith, k.0, k.1, c.rule_target-target.ensures, c.loop-i.invariant.same_length_value, c.requires.0)

pub loop-i-preserved : goal.loop-i-preserved
loop-i-preserved c =
    let a = c.args in
    let l = c.loop-i in
    let v = held (sfits_of c.read-v.type_inv) c.read-v.ensures ∙ ap (read_register (stack a.height l.registers)) c.rule_first.ensures in
    let t = straight_copy a.program.now a.at a.count a.height a.registers.now c.requires.0 c.requires.2 l.invariant c.loop-i-test.true (sym c.rule_function.ensures ∙ c.if-rule_function-ne1.false) in
    let step : a.at + 2 * (l.i + 1) ≡ a.at + 2 * l.i + 2 = omega arith in
    rw (step, c.rule_target-target.ensures) (t.1 _ v)

pub shape_of-registers : goal.shape_of-registers
shape_of-registers c = c.loop-i.invariant.same_length_value

pub returns : goal.returns
returns c =
    let a = c.args in
    let l = c.loop-i in
    let done : l.i ≡ a.count = omega arith in
    (omega arith, subst (λ n. Straight a.program.now a.at a.count a.height a.registers.now n (a.at + 2 * n) l.registers) done l.invariant)
