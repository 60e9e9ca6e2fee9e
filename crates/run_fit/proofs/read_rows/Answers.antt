use native.Mathlib.Omega.{arith}
use Rattle.run_fit.specs.HasProgram.{header_inside}
use Rattle.run_fit.proofs.read_rows.Goals as goal

pub word_at-count-requires : goal.word_at-count-requires
word_at-count-requires c = omega (arith, header_inside c.requires.shown)

pub word_at-requires : goal.word_at-requires
word_at-requires c = omega (arith, header_inside c.requires.shown)
