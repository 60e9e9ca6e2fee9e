use Prim.Native.Nat.{◌+◌, ◌-◌, ◌<◌}
use native.Mathlib.Omega.{arith}
use mathlib.Core.Path.{refl, sym, ap, ◌∙◌, ◌≡◌}
use mathlib.Core.List.{List}
use lib.IntN.{ℤ}
use Rattle.meaning.specs.Differences.{closed, closing}
use Rattle.clash_cycles.proofs.differences.Laws.{closing_turn, small_turn, room_low}
use Rattle.clash_cycles.proofs.close.Goals as goal

pub loop-k-init : goal.loop-k-init
unfolding closed
loop-k-init c = (omega arith, refl, c.requires.0, c.requires.1)

pub eliminate-requires : goal.eliminate-requires
eliminate-requires c =
    let o = c.loop-k in
    (o.invariant.2, omega arith, room_low o.m o.k (omega arith) o.invariant.3)

pub loop-k-preserved : goal.loop-k-preserved
loop-k-preserved c =
    let o = c.loop-k in
    let t : 0 < o.k = omega arith in
    let back : o.k - 1 + 1 ≡ o.k = omega arith in
    let e = rw back at c.eliminate.ensures in
    (omega arith, o.invariant.1 ∙ closing_turn o.m o.k t ∙ ap (λ (l : List ℤ). closing l (o.k - 1)) (sym e), c.eliminate.auto.m ∙ o.invariant.2, rw e (small_turn o.m o.k t (omega arith) o.invariant.2 o.invariant.3))
