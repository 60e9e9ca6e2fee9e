use native.Mathlib.Omega.{arith}
use mathlib.Core.Path.{ap, ◌∙◌}
use borrow.Author.Rules.{sfits_of}
use lib.IntN.{ℤ, ◌+ℤ◌}
use mir.Syntax.{w64}
use mir.Val.{SFits}
use Rattle.meaning.specs.Differences.{at, lowered}
use Rattle.theory_base.specs.Absolute.{nat_abs_add}
use Rattle.value.specs.Overflow.{fits64}
use Rattle.value.proofs.Bits.{fits2, through2}
use Rattle.clash_cycles.proofs.relax.Goals.{Start}
use Rattle.clash_cycles.proofs.relax.Goals as goal

sum_fits : (s : Start) → SFits w64 (at s.args.m.now s.args.i s.args.k +ℤ at s.args.m.now s.args.k s.args.j)
sum_fits s =
    let l = s.args.m.now in
    let x = at l s.args.i s.args.k in
    let y = at l s.args.k s.args.j in
    fits64 (x +ℤ y) (omega (arith, nat_abs_add x y, s.requires.4 s.args.i s.args.k s.requires.2 s.requires.1, s.requires.4 s.args.k s.args.j s.requires.1 s.requires.3))

pub overflow_add-x-2 : goal.overflow_add-x-2
overflow_add-x-2 c =
    let s = c.before.before.before in
    fits2 ◌+ℤ◌ (at s.args.m.now s.args.i s.args.k) (at s.args.m.now s.args.k s.args.j) (sfits_of c.x-1.given) (sfits_of c.y-1.given) (sum_fits s)

pub returns : goal.returns
returns c =
    let s = c.before.before.before.before.before in
    let l = s.args.m.now in
    c.tighten.ensures ∙ ap (λ (w : ℤ). lowered l s.args.i s.args.j w) (through2 ◌+ℤ◌ (at l s.args.i s.args.k) (at l s.args.k s.args.j) (sfits_of c.x-1.given) (sfits_of c.y-1.given) (sum_fits s))
