use mathlib.Core.Path.{◌≡◌, sym, ◌∙◌, ap}
use lib.IntN.{◌*ℤ◌}
use mir.Syntax.{w64}
use mir.Facts.{to_z-of_z}
use mir.Val.{SFits}
use Rattle.value.specs.Ranged.{ranged_out}
use Rattle.value.proofs.Bits.{answer, fits2, through2}
use Rattle.value_functions.proofs.Products.{near, near_left, near_right, both_far}
use Rattle.value_functions.proofs.product.Goals.{After-in_bounds, After-in_bounds-2, Then-in_bounds, Then-in_bounds-2}
use Rattle.value_functions.proofs.product.Goals as goal

tested_a : (c : After-in_bounds) → near c.args.a ≡ c.in_bounds.result
tested_a c = sym (c.in_bounds.ensures ∙ ap near (to_z-of_z c.ranges.a))

tested_b : (c : After-in_bounds-2) → near c.args.b ≡ c.in_bounds-2.result
tested_b c = sym (c.in_bounds-2.ensures ∙ ap near (to_z-of_z c.ranges.b))

fits : (c : Then-in_bounds) → SFits w64 (c.args.a *ℤ c.args.b)
fits c = near_left c.args.a c.args.b (tested_a c.before ∙ c.if-in_bounds.true) c.requires.1

fits_2 : (c : Then-in_bounds-2) → SFits w64 (c.args.a *ℤ c.args.b)
fits_2 c =
    let s = c.before.before.before.before in
    near_right s.args.a s.args.b s.requires.0 (tested_b c.before ∙ c.if-in_bounds-2.true)

pub overflow_mul-a : goal.overflow_mul-a
overflow_mul-a c =
    let s = c.before.before in
    fits2 ◌*ℤ◌ s.args.a s.args.b s.ranges.a s.ranges.b (fits c)

pub returns-then-in_bounds : goal.returns-then-in_bounds
returns-then-in_bounds c =
    let s = c.before.before.before in
    answer c.within.ensures (through2 ◌*ℤ◌ s.args.a s.args.b s.ranges.a s.ranges.b (fits c.before))

pub overflow_mul-a-then-in_bounds-2 : goal.overflow_mul-a-then-in_bounds-2
overflow_mul-a-then-in_bounds-2 c =
    let s = c.before.before.before.before in
    fits2 ◌*ℤ◌ s.args.a s.args.b s.ranges.a s.ranges.b (fits_2 c)

pub returns-then-in_bounds-2 : goal.returns-then-in_bounds-2
returns-then-in_bounds-2 c =
    let s = c.before.before.before.before.before in
    answer c.within-then-in_bounds-2.ensures (through2 ◌*ℤ◌ s.args.a s.args.b s.ranges.a s.ranges.b (fits_2 c.before))

pub returns : goal.returns
returns c =
    let s = c.args in
    sym (ranged_out (s.a *ℤ s.b) (both_far s.a s.b (tested_a c.before.before.before ∙ c.if-in_bounds.false) (tested_b c.before ∙ c.if-in_bounds-2.false)))
