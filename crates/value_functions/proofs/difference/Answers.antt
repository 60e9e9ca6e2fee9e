use native.Mathlib.Omega.{arith}
use mir.Syntax.{w64}
use mir.Val.{SFits}
use Rattle.value.specs.Computed.{computed}
use Rattle.value.specs.Overflow.{computed_fits}
use Rattle.value.proofs.Bits.{answer, fits2, through2}
use Rattle.value_functions.proofs.difference.Goals.{Start}
use Rattle.value_functions.proofs.difference.Goals as goal

fits : (c : Start) → SFits w64 (computed 3 c.args.a c.args.b)
fits c = computed_fits 3 c.args.a c.args.b (λ e. omega (arith, e)) c.requires.0 c.requires.1

pub overflow_sub-a : goal.overflow_sub-a
overflow_sub-a c = fits2 (computed 3) c.args.a c.args.b c.ranges.a c.ranges.b (fits c)

pub returns : goal.returns
returns c =
    let s = c.before in
    answer c.within.ensures (through2 (computed 3) s.args.a s.args.b s.ranges.a s.ranges.b (fits s))
