use Prim.Native.Nat.{◌≤◌}
use native.Mathlib.Omega.{arith}
use mathlib.Core.Path.{◌≡◌}
use lib.IntN.{ℤ, nat_abs, ◌+ℤ◌}
use mir.Syntax.{w64}
use mir.Val.{SFits}
use Rattle.theory_base.specs.Absolute.{nat_abs_add}
use Rattle.clash_cycles.proofs.differences.Laws.{filled_matrix}
use Rattle.value.specs.Overflow.{fits64, reach}
use Rattle.clash_cycles.proofs.differences.start.Goals as goal

sum_fits : (x y : ℤ) → nat_abs x ≤ reach → nat_abs y ≤ reach → SFits w64 (x +ℤ y)
sum_fits x y p q = fits64 (x +ℤ y) (omega (arith, nat_abs_add x y))

pub returns : goal.returns
returns c =
    let o = c.loop-t in
    let e : o.t ≡ 81 = omega arith in
    filled_matrix c.args.n o.m o.invariant.1 (rw e at o.invariant.2)
