use mathlib.Core.Path.{refl}
use native.Mathlib.Omega.{arith}
use Rattle.program_body_words.specs.Laws as B
use Rattle.program.proofs.directory.set_at.Goals as goal

pub returns-then-sets-at : goal.returns-then-sets-at
returns-then-sets-at c = (B.past_end c.args.sets.now c.args.at (omega arith), omega arith)

pub returns : goal.returns
returns c = (refl, omega (arith, c.type_inv.sets c.args.at))
