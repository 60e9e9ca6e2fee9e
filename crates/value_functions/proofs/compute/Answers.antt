use Prim.Native.Nat.{ℕ, zero, suc, ◌≤◌, ◌<◌}
use native.Mathlib.Omega.{arith}
use mathlib.Core.Path.{◌≡◌, refl, sym, ◌∙◌, ap}
use mathlib.Core.Bool.{true}
use lib.ListN.{get_or-eq_default}
use lib.IntN.{ℤ, pos}
use lib.Signed.{le_z}
use mir.Syntax.{w64}
use mir.Facts.{to_z-of_z}
use mir.Val.{to_z, of_z}
use Rattle.meaning.specs.Value.{in_range}
use Rattle.value.specs.Ranged.{ranged, ranged_in, pick_in}
use Rattle.value.specs.Computed.{results, computed}
use Rattle.value.proofs.Bits.{answer, locals}
use Rattle.value_functions.proofs.compute.Goals.{Else-function-eq2, Else-function-eq4, Else-function-eq8, Start}
use Rattle.value_functions.proofs.compute.Goals as goal

same : (c : Start) → to_z w64 (of_z w64 c.args.a) ≡ ranged c.args.a
same c = to_z-of_z c.ranges.a ∙ sym (ranged_in c.args.a c.requires.0)

-- a callee's answer, on the bits of the operands
answers : (f : ℕ) (c : Start) {r : ℤ} → r ≡ ranged (computed f (to_z w64 (of_z w64 c.args.a)) (to_z w64 (of_z w64 c.args.b))) → to_z w64 (of_z w64 r) ≡ ranged (computed f c.args.a c.args.b)
answers f c e = answer e (locals (computed f) c.args.a c.args.b c.ranges.a c.ranges.b)

-- one of the operands is a value as they are
picked : (f : ℕ) (c : Start) {r : ℤ} → r ≡ computed f (to_z w64 (of_z w64 c.args.a)) (to_z w64 (of_z w64 c.args.b)) → in_range (computed f c.args.a c.args.b) ≡ true → to_z w64 (of_z w64 r) ≡ ranged (computed f c.args.a c.args.b)
picked f c e i = answer {x = computed f c.args.a c.args.b} (e ∙ locals (computed f) c.args.a c.args.b c.ranges.a c.ranges.b ∙ sym (ranged_in (computed f c.args.a c.args.b) i)) refl

-- the first two functions have their first operand
first_two : (f : ℕ) (a b : ℤ) → f < 2 → computed f a b ≡ a
first_two zero a b l = refl
first_two (suc zero) a b l = refl
first_two (suc (suc f)) a b l = absurd (omega arith)

-- the second of a pair of functions
differs : (c : Else-function-eq2) → c.args.function ≡ 3
differs c = omega (arith, c.if-function-eq2.false, c.if-function-lt4.true, c.if-function-lt2.false)

takes_larger : (c : Else-function-eq4) → c.args.function ≡ 5
takes_larger c = omega (arith, c.if-function-eq4.false, c.if-function-lt6.true, c.if-function-lt4.false)

-- none of the nine
past : (c : Else-function-eq8) → 9 ≤ c.args.function
past c = omega (arith, c.if-function-eq8.false, c.if-function-eq7.false, c.if-function-eq6.false, c.if-function-lt6.false)

pub returns-then-function-lt2 : goal.returns-then-function-lt2
returns-then-function-lt2 c =
    let s = c.before in
    same s ∙ ap ranged (sym (first_two s.args.function s.args.a s.args.b c.if-function-lt2.true))

pub returns-then-function-eq2 : goal.returns-then-function-eq2
returns-then-function-eq2 c = rw c.if-function-eq2.true (answers 2 c.before.before.before.before c.sum.ensures)

pub returns-then-function-lt4 : goal.returns-then-function-lt4
returns-then-function-lt4 c = rw (differs c.before) (answers 3 c.before.before.before.before c.difference.ensures)

pub returns-then-function-eq4 : goal.returns-then-function-eq4
returns-then-function-eq4 c = rw c.if-function-eq4.true (answers 4 c.before.before.before.before.before c.product.ensures)

pub returns-then-function-lt6 : goal.returns-then-function-lt6
returns-then-function-lt6 c =
    let s = c.before.before.before.before.before in
    rw (takes_larger c.before) (picked 5 s c.larger.ensures (pick_in (le_z s.args.a s.args.b) s.args.b s.args.a s.requires.1 s.requires.0))

pub returns-then-function-eq6 : goal.returns-then-function-eq6
returns-then-function-eq6 c =
    let s = c.before.before.before.before.before in
    rw c.if-function-eq6.true (picked 6 s c.smaller.ensures (pick_in (le_z s.args.a s.args.b) s.args.a s.args.b s.requires.0 s.requires.1))

pub returns-then-function-eq7 : goal.returns-then-function-eq7
returns-then-function-eq7 c = rw c.if-function-eq7.true (answers 7 c.before.before.before.before.before.before c.sum-then-function-eq7.ensures)

pub returns-then-function-eq8 : goal.returns-then-function-eq8
returns-then-function-eq8 c = rw c.if-function-eq8.true (answers 8 c.before.before.before.before.before.before.before c.quotient.ensures)

pub returns : goal.returns
returns c =
    let s = c.before.before.before.before.before.before in
    sym (ap ranged (get_or-eq_default (results s.args.a s.args.b) (pos 0) {n = s.args.function} (past c)))
