use Rattle.std.proofs.Common.{arith, to_z-of_z, w64, SFits}
use Rattle.value.specs.Computed.{computed}
use Rattle.value.specs.Overflow.{computed_fits}
use Rattle.value.proofs.Bits.{fits2, through2}
use Rattle.value.proofs.at_most_plus.Goals.{Start}
use Rattle.value.proofs.at_most_plus.Goals as goal

fits : (c : Start) → SFits w64 (computed 2 c.args.b c.args.c)
fits c = computed_fits 2 c.args.b c.args.c (λ e. omega (arith, e)) c.requires.0 c.requires.1

pub overflow_add-result : goal.overflow_add-result
overflow_add-result c = fits2 (computed 2) c.args.b c.args.c c.ranges.b c.ranges.c (fits c)

pub returns : goal.returns
returns c = rw (through2 (computed 2) c.args.b c.args.c c.ranges.b c.ranges.c (fits c), to_z-of_z c.ranges.a)
