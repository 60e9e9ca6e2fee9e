use Prim.Native.Nat.{◌≤◌}
use native.Mathlib.Omega.{arith}
use mathlib.Core.Path.{◌≡◌, ap, ap₂, ◌∙◌}
use mathlib.Core.List.{List}
use lib.IntN.{ℤ, pos, neg_ℤ, nat_abs, ◌-ℤ◌, +ℤ_idl}
use mir.Syntax.{w64}
use mir.Facts.{to_z-of_z}
use mir.Val.{SFits, to_z, of_z}
use Rattle.meaning.specs.Differences.{lowered}
use Rattle.theory_differences.specs.Decided.{limit}
use Rattle.theory_differences.specs.Building.{lowered_size}
use Rattle.clash_cycles.proofs.differences.Laws.{lowered_small}
use Rattle.theory_base.specs.Absolute.{nat_abs_neg}
use Rattle.value.specs.Overflow.{fits64}
use Rattle.clash_cycles.proofs.differences.between.Goals as goal

minus : (z : ℤ) → SFits w64 z → nat_abs z ≤ limit → to_z w64 (of_z w64 (pos 0 -ℤ to_z w64 (of_z w64 z))) ≡ neg_ℤ z
minus z f h = rw (to_z-of_z f, +ℤ_idl (neg_ℤ z)) (to_z-of_z (fits64 (neg_ℤ z) (omega (arith, nat_abs_neg z))))

minus_fits : (z : ℤ) → SFits w64 z → nat_abs z ≤ limit → SFits w64 (pos 0 -ℤ to_z w64 (of_z w64 z))
minus_fits z f h = rw (to_z-of_z f, +ℤ_idl (neg_ℤ z)) (fits64 (neg_ℤ z) (omega (arith, nat_abs_neg z)))

pub overflow_sub-low : goal.overflow_sub-low
overflow_sub-low c =
    let s = c in
    minus_fits s.args.low s.ranges.low s.requires.2

pub returns : goal.returns
returns c =
    let s = c in
    let l = s.args.m.now in
    let a = s.args.a in
    let y = s.args.high in
    let d : c.tighten.new.m ≡ lowered l a 0 y = c.tighten.ensures ∙ ap (λ (w : ℤ). lowered l a 0 w) (to_z-of_z s.ranges.high) in
    let e = c.tighten-2.ensures ∙ ap₂ (λ (m : List ℤ) (w : ℤ). lowered m 0 a w) d (minus s.args.low s.ranges.low s.requires.2) in
    let low : nat_abs (neg_ℤ s.args.low) ≤ limit = omega (arith, nat_abs_neg s.args.low, s.requires.2) in
    record { met = e; small = λ f. rw e (lowered_small (lowered l a 0 y) 0 a (neg_ℤ s.args.low) (lowered_size l a 0 y s.requires.0) (omega arith) s.requires.1 low (lowered_small l a 0 y s.requires.0 s.requires.1 (omega arith) s.requires.3 f)) }
