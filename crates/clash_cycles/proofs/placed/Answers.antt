use Prim.Native.Nat.{ℕ}
use native.Mathlib.Omega.{arith}
use mathlib.Core.Path.{◌∙◌}
use borrow.Author.Rules.{sfits_of}
use lib.IntN.{ℤ, ◌+ℤ◌}
use mir.Syntax.{w64}
use mir.Facts.{to_z-of_z}
use mir.Val.{to_z, of_z}
use Rattle.meaning.specs.Differences.{at}
use Rattle.clash_cycles.specs.Values.{node_value}
use Rattle.clash_cycles.proofs.Placing.{least_turn}
use Rattle.clash_cycles.proofs.placed.Goals as goal

pub loop-j-preserved : goal.loop-j-preserved
loop-j-preserved c =
    let s = c in
    let o = c.loop-j in
    let f : ℕ → ℤ = λ i. node_value s.args.v.now i +ℤ at s.args.m.now s.args.k i in
    (omega arith, omega arith, to_z-of_z {w = w64} (sfits_of c.lesser-x.type_inv) ∙ (c.lesser-x.ensures ∙ least_turn f o.j (to_z w64 o.x-bits) (to_z w64 (of_z w64 c.allowed-y.result)) o.invariant.0 o.invariant.2 (to_z-of_z {w = w64} (sfits_of c.allowed-y.type_inv) ∙ c.allowed-y.ensures.0)))
