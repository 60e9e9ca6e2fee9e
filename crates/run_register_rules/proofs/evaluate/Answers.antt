use Prim.Native.Nat.{ℕ, ◌+◌, ◌-◌, ◌*◌, ◌≤◌}
use native.Mathlib.Omega.{arith}
use mathlib.Core.Path.{◌≡◌, refl, sym, ap, ◌∙◌, subst}
use mathlib.Core.List.{List}
use lib.IntN.{ℤ}
use borrow.Author.Rules.{sfits_of}
use lib.ListN.{length, set}
use mir.Syntax.{w64}
use mir.Val.{to_z, of_z}
use Rattle.meaning.specs.Calls.{is_mark}
use Rattle.run_registers.specs.Stack.{stack, stack_length}
use Rattle.run_registers.specs.Read.{rules_from}
use Rattle.run_registers.proofs.Loops.{rules_inside}
use Rattle.value.proofs.Bits.{held}
use Rattle.run_register_rules.specs.Remarked.{TargetsMarked}
use Rattle.run_register_rules.specs.Straight.{Straight}
use Rattle.run_register_rules.proofs.Straight.{origin, straight_origin, inside_now, straight_applies, straight_target, straight_turn, straight_stop, straight_end}
use Rattle.run_register_rules.proofs.evaluate.Goals as goal

-- what stands at a turn, of what was brought: of what the copies left, m, the loop says it
stands : (ws : List ℕ) (at n h : ℕ) (r m : List ℤ) → h ≤ length r → TargetsMarked (rules_from ws at n) (stack h r) → (k : ℕ) → Straight ws at n h r k (at + 2 * k) m → (i p : ℕ) (now : List ℤ) → Straight ws at n h (origin ws at n h m) i p now → Straight ws at n h r i p now
stands ws at n h r m low t k s i p now q = subst (λ z. Straight ws at n h z i p now) (straight_origin ws at n h r low t s) q

pub copy_first-copied-requires : goal.copy_first-copied-requires
copy_first-copied-requires c = c.requires

pub loop-i-init : goal.loop-i-init
loop-i-init c =
    let a = c.args in
    let k = c.copy_first-copied in
    let n = k.result in
    subst (λ m. Straight a.program.now a.at a.count a.height m n (a.at + 2 * n) k.new.registers) (sym (straight_origin a.program.now a.at a.count a.height a.registers.now c.requires.0 c.requires.2 k.ensures.1)) k.ensures.1

pub bounds-program-p : goal.bounds-program-p
bounds-program-p c = omega (arith, rules_inside c.loop-i.invariant.left)

pub overflow_add-constant : goal.overflow_add-constant
overflow_add-constant c = omega (arith, rules_inside c.loop-i.invariant.left)

pub bounds-program-p-in-loop-i : goal.bounds-program-p-in-loop-i
bounds-program-p-in-loop-i c = omega (arith, rules_inside c.loop-i.invariant.left)

pub overflow_cast-below : goal.overflow_cast-below
overflow_cast-below c = omega arith

pub result-v-requires : goal.result-v-requires
result-v-requires c =
    let a = c.args in
    let l = c.loop-i in
    let w = stands a.program.now a.at a.count a.height a.registers.now _ c.requires.0 c.requires.2 _ c.copy_first-copied.ensures.1 l.i (a.at + 2 * l.i) l.registers l.invariant in (
      inside_now a.program.now a.at a.count a.height a.registers.now c.requires.0 c.requires.2 w,
      straight_applies a.program.now a.at a.count a.height a.registers.now c.requires.0 c.requires.2 w c.loop-i-test.true,
    )

pub mark_again-requires : goal.mark_again-requires
mark_again-requires c =
    let a = c.args in
    let l = c.loop-i in
    let w = stands a.program.now a.at a.count a.height a.registers.now _ c.requires.0 c.requires.2 _ c.copy_first-copied.ensures.1 l.i (a.at + 2 * l.i) l.registers l.invariant in (
      inside_now a.program.now a.at a.count a.height a.registers.now c.requires.0 c.requires.2 w,
      (stack a.height a.registers.now, stack_length a.height a.registers.now c.requires.0, c.requires.1),
    )

pub shape_of-registers-then-is_mark : goal.shape_of-registers-then-is_mark
shape_of-registers-then-is_mark c =
    let a = c.args in
    let l = c.loop-i in
    let w = stands a.program.now a.at a.count a.height a.registers.now _ c.requires.0 c.requires.2 _ c.copy_first-copied.ensures.1 l.i (a.at + 2 * l.i) l.registers l.invariant in
    c.mark_again.auto.registers ∙ w.same_length_value

pub returns-then-is_mark : goal.returns-then-is_mark
returns-then-is_mark c =
    let a = c.args in
    let l = c.loop-i in
    let w = stands a.program.now a.at a.count a.height a.registers.now _ c.requires.0 c.requires.2 _ c.copy_first-copied.ensures.1 l.i (a.at + 2 * l.i) l.registers l.invariant in
    let back : to_z w64 (of_z w64 c.result-v.result) ≡ c.result-v.result = held (sfits_of c.result-v.type_inv) refl in
    let tested : is_mark c.result-v.result ≡ c.is_mark.result = sym (c.is_mark.ensures ∙ ap is_mark back) in
    straight_stop a.program.now a.at a.count a.height a.registers.now c.requires.0 c.requires.2 w c.loop-i-test.true c.result-v.result c.result-v.ensures (tested ∙ c.if-is_mark.true) _ c.mark_again.ensures

pub overflow_sub-v : goal.overflow_sub-v
overflow_sub-v c =
    let a = c.args in
    let l = c.loop-i in
    let w = stands a.program.now a.at a.count a.height a.registers.now _ c.requires.0 c.requires.2 _ c.copy_first-copied.ensures.1 l.i (a.at + 2 * l.i) l.registers l.invariant in
    let k = straight_target a.program.now a.at a.count a.height a.registers.now c.requires.0 c.requires.2 w c.loop-i-test.true in
    omega (arith, k.0, k.1, c.rule_target-below.ensures)

pub offset_bounds-registers-height : goal.offset_bounds-registers-height
offset_bounds-registers-height c = omega arith

pub bounds-registers-height : goal.bounds-registers-height
bounds-registers-height c =
    let a = c.args in
    let l = c.loop-i in
    let w = stands a.program.now a.at a.count a.height a.registers.now _ c.requires.0 c.requires.2 _ c.copy_first-copied.ensures.1 l.i (a.at + 2 * l.i) l.registers l.invariant in
    let k = straight_target a.program.now a.at a.count a.height a.registers.now c.requires.0 c.requires.2 w c.loop-i-test.true in
    omega (arith, k.0, k.1, c.rule_target-below.ensures, w.same_length_value, c.requires.0)

pub loop-i-preserved : goal.loop-i-preserved
loop-i-preserved c =
    let a = c.args in
    let l = c.loop-i in
    let w = stands a.program.now a.at a.count a.height a.registers.now _ c.requires.0 c.requires.2 _ c.copy_first-copied.ensures.1 l.i (a.at + 2 * l.i) l.registers l.invariant in
    let back : to_z w64 (of_z w64 c.result-v.result) ≡ c.result-v.result = held (sfits_of c.result-v.type_inv) refl in
    let tested : is_mark c.result-v.result ≡ c.is_mark.result = sym (c.is_mark.ensures ∙ ap is_mark back) in
    let m = set l.registers (a.height - c.rule_target-below.result) (to_z w64 (of_z w64 c.result-v.result)) in
    let written : Straight a.program.now a.at a.count a.height a.registers.now (l.i + 1) (a.at + 2 * l.i + 2) m
    = rw (back, c.rule_target-below.ensures) (straight_turn a.program.now a.at a.count a.height a.registers.now c.requires.0 c.requires.2 w c.loop-i-test.true c.result-v.result c.result-v.ensures (tested ∙ c.if-is_mark.false)) in
    let step : a.at + 2 * (l.i + 1) ≡ a.at + 2 * l.i + 2 = omega arith in
    rw step (subst (λ b. Straight a.program.now a.at a.count a.height b (l.i + 1) (a.at + 2 * l.i + 2) m) (sym (straight_origin a.program.now a.at a.count a.height a.registers.now c.requires.0 c.requires.2 c.copy_first-copied.ensures.1)) written)

pub shape_of-registers : goal.shape_of-registers
shape_of-registers c =
    let a = c.args in
    let l = c.loop-i in
    (stands a.program.now a.at a.count a.height a.registers.now _ c.requires.0 c.requires.2 _ c.copy_first-copied.ensures.1 l.i (a.at + 2 * l.i) l.registers l.invariant).same_length_value

pub returns : goal.returns
returns c =
    let a = c.args in
    let l = c.loop-i in
    let w = stands a.program.now a.at a.count a.height a.registers.now _ c.requires.0 c.requires.2 _ c.copy_first-copied.ensures.1 l.i (a.at + 2 * l.i) l.registers l.invariant in
    straight_end a.program.now a.at a.count a.height a.registers.now c.requires.0 c.requires.2 w c.loop-i-test.false
