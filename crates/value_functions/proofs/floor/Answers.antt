use Prim.Native.Nat.{◌≤◌}
use mathlib.Core.Path.{◌≡◌, refl, sym, ◌∙◌}
use mathlib.Core.Bool.{true, false}
use native.Mathlib.Omega.{arith}
use borrow.Author.Rules.{rules}
use lib.IntN.{ℤ, pos, nat_abs, ◌+ℤ◌, ◌-ℤ◌}
use lib.Signed.{le_z, quot_z}
use mir.Syntax.{w64}
use mir.Facts.{to_z-of_z}
use mir.Val.{SFits}
use Rattle.theory_base.specs.Absolute.{nat_abs_add, nat_abs_sub}
use Rattle.value.specs.Nearest.{quot_z_size, floor_nonneg, floor_negative}
use Rattle.value.specs.Overflow.{fits64}
use Rattle.value.proofs.Bits.{op_fits, op_back, positive_bits}
use Rattle.value_functions.proofs.floor.Goals as goal

module _ (n d : ℤ) (small : nat_abs n ≤ 4000000000000) where
  up_fits : SFits w64 (n +ℤ pos 1)
  up_fits = fits64 (n +ℤ pos 1) (omega (arith, nat_abs_add n (pos 1), small))

  quot_fits : SFits w64 (quot_z n d)
  quot_fits = fits64 (quot_z n d) (omega (arith, quot_z_size n d, small))

  up_quot_fits : SFits w64 (quot_z (n +ℤ pos 1) d)
  up_quot_fits = fits64 (quot_z (n +ℤ pos 1) d) (omega (arith, quot_z_size (n +ℤ pos 1) d, nat_abs_add n (pos 1), small))

  down_fits : SFits w64 (quot_z (n +ℤ pos 1) d -ℤ pos 1)
  down_fits = fits64 (quot_z (n +ℤ pos 1) d -ℤ pos 1) (omega (arith, nat_abs_sub (quot_z (n +ℤ pos 1) d) (pos 1), quot_z_size (n +ℤ pos 1) d, nat_abs_add n (pos 1), small))

pub nonzero_div-result : goal.nonzero_div-result
nonzero_div-result c =
    let s = c.before in
    (positive_bits s.args.d s.requires.1, op_fits quot_z (to_z-of_z s.ranges.n) (to_z-of_z s.ranges.d) (quot_fits s.args.n s.args.d s.requires.0))

pub returns-then-n-ge0 : goal.returns-then-n-ge0
returns-then-n-ge0 c =
    let s = c.before in
    let t : le_z (pos 0) s.args.n ≡ true = sym (search rules) ∙ c.if-n-ge0.true in
    op_back quot_z (to_z-of_z s.ranges.n) (to_z-of_z s.ranges.d) (quot_fits s.args.n s.args.d s.requires.0) ∙ floor_nonneg s.args.n s.args.d t s.requires.1

pub overflow_add-result : goal.overflow_add-result
overflow_add-result c =
    let s = c.before in
    op_fits ◌+ℤ◌ {y = pos 1} (to_z-of_z s.ranges.n) refl (up_fits s.args.n s.args.d s.requires.0)

pub nonzero_div-result-2 : goal.nonzero_div-result-2
nonzero_div-result-2 c =
    let s = c.before in
    let up = op_back ◌+ℤ◌ {y = pos 1} (to_z-of_z s.ranges.n) refl (up_fits s.args.n s.args.d s.requires.0) in
    (positive_bits s.args.d s.requires.1, op_fits quot_z up (to_z-of_z s.ranges.d) (up_quot_fits s.args.n s.args.d s.requires.0))

pub overflow_sub-result : goal.overflow_sub-result
overflow_sub-result c =
    let s = c.before in
    let up = op_back ◌+ℤ◌ {y = pos 1} (to_z-of_z s.ranges.n) refl (up_fits s.args.n s.args.d s.requires.0) in
    let quot = op_back quot_z up (to_z-of_z s.ranges.d) (up_quot_fits s.args.n s.args.d s.requires.0) in
    op_fits ◌-ℤ◌ {y = pos 1} quot refl (down_fits s.args.n s.args.d s.requires.0)

pub returns : goal.returns
returns c =
    let s = c.before in
    let t : le_z (pos 0) s.args.n ≡ false = sym (search rules) ∙ c.if-n-ge0.false in
    let up = op_back ◌+ℤ◌ {y = pos 1} (to_z-of_z s.ranges.n) refl (up_fits s.args.n s.args.d s.requires.0) in
    let quot = op_back quot_z up (to_z-of_z s.ranges.d) (up_quot_fits s.args.n s.args.d s.requires.0) in
    op_back ◌-ℤ◌ {y = pos 1} quot refl (down_fits s.args.n s.args.d s.requires.0) ∙ floor_negative s.args.n s.args.d t s.requires.1
