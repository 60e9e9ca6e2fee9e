use native.Mathlib.Omega.{arith}
use mir.Syntax.{w64}
use mir.Val.{SFits}
use Rattle.value.specs.Computed.{computed}
use Rattle.value.specs.Overflow.{computed_fits}
use Rattle.value.proofs.Bits.{answer, fits2, through2}
use Rattle.value_functions.proofs.sum.Goals.{Start}
use Rattle.value_functions.proofs.sum.Goals as goal

fits : (c : Start) → SFits w64 (computed 2 c.args.a c.args.b)
fits c = computed_fits 2 c.args.a c.args.b (λ e. omega (arith, e)) c.requires.0 c.requires.1

pub overflow_add-a : goal.overflow_add-a
overflow_add-a c = fits2 (computed 2) c.args.a c.args.b c.ranges.a c.ranges.b (fits c)

pub returns : goal.returns
returns c =
    let s = c.before in
    answer c.within.ensures (through2 (computed 2) s.args.a s.args.b s.ranges.a s.ranges.b (fits s))
