use Prim.Native.Nat.{◌+◌, ◌*◌}
use mathlib.Core.Path.{ap, ◌∙◌}
use borrow.Author.Rules.{sfits_of}
use lib.IntN.{ℤ, pos}
use lib.ListN.{get_or, set}
use mir.Syntax.{w64}
use mir.Facts.{to_z-of_z}
use Rattle.meaning.specs.Differences.{lesser}
use Rattle.value.proofs.Bits.{locals}
use Rattle.clash_cycles.proofs.differences.tighten.Goals as goal

pub returns : goal.returns
returns c =
    let s = c in
    let l = s.args.m.now in
    let t = s.args.i * 9 + s.args.j in
    ap (λ (x : ℤ). set l t x) (to_z-of_z {w = w64} (sfits_of c.lesser-x.type_inv) ∙ c.lesser-x.ensures ∙ locals lesser (get_or l t (pos 0)) s.args.w (sfits_of c.lesser-arg-1.given) s.ranges.w)
