use Rattle.std.proofs.Common.{arith}
use Rattle.std.proofs.lemmas.Grind.{common_steps}
use Rattle.token_set.specs.SetBits.{has_beyond, has_test}
use Rattle.token_set.proofs.word.has.Goals as goal

pub returns-then-n-lt64 : goal.returns-then-n-lt64
returns-then-n-lt64 c = has_test _ _ c.if-n-lt64.true

pub returns-else-n-lt64 : goal.returns-else-n-lt64
returns-else-n-lt64 c = rw (has_beyond c.args.word c.args.n c.if-n-lt64.false) (grind (arith, common_steps))
