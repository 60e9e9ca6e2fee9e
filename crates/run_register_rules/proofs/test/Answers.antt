use Prim.Native.Nat.{ℕ, ◌+◌, ◌-◌, ◌*◌, ◌<◌}
use native.Mathlib.Omega.{arith}
use mathlib.Core.Path.{◌≡◌, refl, sym, ap, ◌∙◌}
use mathlib.Core.Bool.{Bool, ◌&&◌}
use mathlib.Core.List.{List}
use lib.IntN.{ℤ}
use Rattle.meaning.specs.Machine.{read_register}
use Rattle.meaning.specs.Value.{holds}
use Rattle.run_registers.specs.Stack.{stack}
use Rattle.run_registers.specs.Read.{condition_here, conditions_from}
use Rattle.run_registers.proofs.Loops.{conditions_turn, conditions_end, reads_turn, tests_turn}
use Rattle.run_register_rules.proofs.test.Invariants.{hold_all}
use Rattle.run_register_rules.proofs.test.Goals as goal

-- the answer so far, by the condition at hand
turn : (rs : List ℤ) (ws : List ℕ) (at count p i : ℕ) (r : Bool) → i < count → hold_all rs (conditions_from ws at count) ≡ hold_all rs (conditions_from ws p (count - i)) → r ≡ holds (read_register rs) (condition_here ws p)
    → hold_all rs (conditions_from ws at count) ≡ r && hold_all rs (conditions_from ws (p + 3) (count - (i + 1)))
turn rs ws at count p i r l e h = e ∙ (ap (hold_all rs) (conditions_turn ws p count i l) ∙ ap (λ (b : Bool). b && hold_all rs (conditions_from ws (p + 3) (count - (i + 1)))) (sym h))

pub loop-i-init : goal.loop-i-init
loop-i-init c =
    let e : c.args.count - 0 ≡ c.args.count = omega arith in
    let z : c.args.at + 3 * 0 ≡ c.args.at = omega arith in
    (rw (z, e) c.requires.1, rw (z, e) refl)

pub condition-requires : goal.condition-requires
condition-requires c =
    let a = c.args in
    let l = c.loop-i in
    (c.requires.0, reads_turn a.program.now (a.at + 3 * l.i) a.count l.i (stack a.height a.registers.now) c.loop-i-test.true l.invariant.0)

pub loop-i-preserved : goal.loop-i-preserved
loop-i-preserved c =
    let a = c.args in
    let l = c.loop-i in
    let rs = stack a.height a.registers.now in
    let step : a.at + 3 * (l.i + 1) ≡ a.at + 3 * l.i + 3 = omega arith in
    rw step (
      tests_turn a.program.now (a.at + 3 * l.i) a.count l.i rs c.loop-i-test.true l.invariant.0,
      rw c.if-not-condition.false at (turn rs a.program.now a.at a.count (a.at + 3 * l.i) l.i c.condition.result c.loop-i-test.true l.invariant.1 c.condition.ensures),
    )

pub returns-then-not-condition : goal.returns-then-not-condition
returns-then-not-condition c =
    let a = c.args in
    let l = c.loop-i in
    sym (rw c.if-not-condition.true at (turn (stack a.height a.registers.now) a.program.now a.at a.count (a.at + 3 * l.i) l.i c.condition.result c.loop-i-test.true l.invariant.1 c.condition.ensures))

pub returns : goal.returns
returns c =
    let a = c.args in
    let l = c.loop-i in
    sym (l.invariant.1 ∙ ap (hold_all (stack a.height a.registers.now)) (conditions_end a.program.now (a.at + 3 * l.i) a.count l.i c.loop-i-test.false))
