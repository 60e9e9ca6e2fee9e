use native.Mathlib.Omega.{arith}
use mathlib.Core.Path.{◌≡◌, ◌∙◌}
use borrow.Author.Rules.{sfits_of}
use lib.ListN.{length-set}
use mir.Syntax.{w64}
use mir.Facts.{to_z-of_z}
use mir.Val.{to_z, of_z}
use Rattle.meaning.specs.Differences.{at}
use Rattle.clash_cycles.proofs.Placing.{placed_turn, near_turn}
use Rattle.clash_cycles.proofs.place.Goals as goal

pub loop-k-preserved : goal.loop-k-preserved
loop-k-preserved c =
    let s = c in
    let o = c.loop-k in
    let l = s.args.m.now in
    let x = c.placed-x.result in
    let e : to_z w64 (of_z w64 x) ≡ x = to_z-of_z {w = w64} (sfits_of c.placed-x.type_inv) in
    rw e (omega arith, omega arith, length-set o.v o.k x ∙ o.invariant.2, placed_turn (at l) o.v o.k x o.invariant.0 (omega arith) o.invariant.2 o.invariant.3 c.placed-x.ensures, near_turn l o.v o.k x o.invariant.0 (omega arith) o.invariant.2 s.requires.2 o.invariant.4 c.placed-x.ensures)

pub returns : goal.returns
returns c =
    let o = c.loop-k in
    let e : o.k ≡ 9 = omega arith in
    rw e at o.invariant.3
