use Prim.Native.Nat.{◌+◌, ◌*◌}
use native.Mathlib.Omega.{arith}
use mathlib.Core.Path.{◌≡◌}
use Rattle.run_registers.proofs.Loops.{rules_inside}
use Rattle.run_register_rules.proofs.Straight.{remarking_start, remarking_target, remarking_turn, remarking_end}
use Rattle.run_register_rules.proofs.mark_again.Goals as goal

pub loop-i-init : goal.loop-i-init
loop-i-init c =
    let v = c.requires.1 in
    let z : c.args.at + 2 * 0 ≡ c.args.at = omega arith in
    (v.0, v.1, rw z (remarking_start c.requires.0 v.1 v.2))

pub bounds-program-at : goal.bounds-program-at
bounds-program-at c = omega (arith, rules_inside c.loop-i.invariant.2.left)

pub overflow_sub-registers : goal.overflow_sub-registers
overflow_sub-registers c =
    let v = c.loop-i.invariant in
    let k = remarking_target c.requires.0 v.1 v.2 c.loop-i-test.true in
    omega (arith, k.0, k.1, c.rule_target-below.ensures)

pub slice_set_of-registers : goal.slice_set_of-registers
slice_set_of-registers c =
    let v = c.loop-i.invariant in
    let k = remarking_target c.requires.0 v.1 v.2 c.loop-i-test.true in
    omega (arith, k.0, k.1, c.rule_target-below.ensures, v.2.same_length_value, c.requires.0)

pub loop-i-preserved : goal.loop-i-preserved
loop-i-preserved c =
    let v = c.loop-i.invariant in
    let a = c.args in
    let step : a.at + 2 * (c.loop-i.i + 1) ≡ a.at + 2 * c.loop-i.i + 2 = omega arith in
    (v.0, v.1, rw (step, c.rule_target-below.ensures) (remarking_turn c.requires.0 v.1 v.2 c.loop-i-test.true))

pub returns : goal.returns
returns c =
    let v = c.loop-i.invariant in
    remarking_end c.requires.0 v.1 v.2 c.loop-i-test.false
