use Prim.Native.Nat.{◌≤◌}
use mathlib.Core.Path.{◌≡◌, refl, sym, ◌∙◌, ap, subst}
use mathlib.Core.Bool.{true, false}
use native.Mathlib.Omega.{arith}
use borrow.Author.Rules.{rules}
use lib.IntN.{ℤ, pos, nat_abs, ◌+ℤ◌}
use lib.Signed.{le_z}
use mir.Syntax.{w64}
use mir.Facts.{to_z-of_z}
use mir.Val.{SFits, to_z, of_z}
use Rattle.meaning.specs.Value.{floored, quotient}
use Rattle.theory_base.specs.Quotients.{quotient_floored, quotient_low}
use Rattle.value.specs.Ranged.{ranged, ranged_in}
use Rattle.theory_base.specs.Absolute.{nat_abs_add}
use Rattle.value.specs.Nearest.{doubled}
use Rattle.value.specs.Overflow.{in_range_size, fits64, quotient_in}
use Rattle.value.proofs.Bits.{answer, op_fits, op_back}
use Rattle.value_functions.proofs.quotient.Goals.{Start, Then-c-ge1}
use Rattle.value_functions.proofs.quotient.Goals as goal

module _ (c : Start) where
  abbrev a : ℤ
  a = c.args.a

  abbrev d : ℤ
  d = c.args.c

  two : nat_abs (a +ℤ a) ≤ 2000000000000
  two = omega (arith, nat_abs_add a a, in_range_size a c.requires.0)

  three : nat_abs (a +ℤ a +ℤ d) ≤ 4000000000000
  three = omega (arith, nat_abs_add (a +ℤ a) d, two, in_range_size d c.requires.1)

  two_fits : SFits w64 (a +ℤ a)
  two_fits = fits64 (a +ℤ a) (omega (arith, two))

  three_fits : SFits w64 (a +ℤ a +ℤ d)
  three_fits = fits64 (a +ℤ a +ℤ d) (omega (arith, three))

  both_fits : SFits w64 (d +ℤ d)
  both_fits = fits64 (d +ℤ d) (omega (arith, nat_abs_add d d, in_range_size d c.requires.1))

  back_two : to_z w64 (of_z w64 (to_z w64 (of_z w64 a) +ℤ to_z w64 (of_z w64 a))) ≡ a +ℤ a
  back_two = op_back ◌+ℤ◌ (to_z-of_z c.ranges.a) (to_z-of_z c.ranges.a) two_fits

  back_three : to_z w64 (of_z w64 (to_z w64 (of_z w64 (to_z w64 (of_z w64 a) +ℤ to_z w64 (of_z w64 a))) +ℤ to_z w64 (of_z w64 d))) ≡ a +ℤ a +ℤ d
  back_three = op_back ◌+ℤ◌ back_two (to_z-of_z c.ranges.c) three_fits

  back_both : to_z w64 (of_z w64 (to_z w64 (of_z w64 d) +ℤ to_z w64 (of_z w64 d))) ≡ d +ℤ d
  back_both = op_back ◌+ℤ◌ (to_z-of_z c.ranges.c) (to_z-of_z c.ranges.c) both_fits

  is_value : quotient a d ≡ ranged (quotient a d)
  is_value = sym (ranged_in (quotient a d) (quotient_in a d c.requires.0))

tested : (c : Then-c-ge1) → le_z (pos 1) c.args.c ≡ true
tested c = sym (search rules) ∙ c.if-c-ge1.true

pub overflow_add-a : goal.overflow_add-a
overflow_add-a c = op_fits ◌+ℤ◌ (to_z-of_z c.ranges.a) (to_z-of_z c.ranges.a) (two_fits c.before)

pub overflow_add-a-then-c-ge1 : goal.overflow_add-a-then-c-ge1
overflow_add-a-then-c-ge1 c = op_fits ◌+ℤ◌ (back_two c.before) (to_z-of_z c.ranges.c) (three_fits c.before)

pub overflow_add-c : goal.overflow_add-c
overflow_add-c c = op_fits ◌+ℤ◌ (to_z-of_z c.ranges.c) (to_z-of_z c.ranges.c) (both_fits c.before)

pub floor-requires : goal.floor-requires
floor-requires c =
    (subst (λ (z : ℤ). nat_abs z ≤ 4000000000000) (sym (back_three c.before)) (three c.before), subst (λ (z : ℤ). le_z (pos 1) z ≡ true) (sym (back_both c.before)) (doubled c.args.c (tested c)))

pub returns-then-c-ge1 : goal.returns-then-c-ge1
returns-then-c-ge1 c =
    let s = c.before.before in
    let e = ap (λ (z : ℤ). floored z (nat_abs (to_z w64 (of_z w64 (to_z w64 (of_z w64 s.args.c) +ℤ to_z w64 (of_z w64 s.args.c)))))) (back_three s) ∙ ap (λ (z : ℤ). floored (s.args.a +ℤ s.args.a +ℤ s.args.c) (nat_abs z)) (back_both s) in
    answer {x = quotient s.args.a s.args.c} (c.floor.ensures ∙ e ∙ sym (quotient_floored s.args.a s.args.c (tested c.before)) ∙ is_value s) refl

pub returns : goal.returns
returns c =
    let s = c.before in
    let t : le_z (pos 1) s.args.c ≡ false = sym (search rules) ∙ c.if-c-ge1.false in
    sym (ap ranged (quotient_low s.args.a s.args.c t))
