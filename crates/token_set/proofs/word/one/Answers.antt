use Rattle.token_set.specs.SetBits.{set_none, one_shifted, set_one}
use Rattle.token_set.proofs.word.one.Goals as goal

pub returns-then-n-lt64 : goal.returns-then-n-lt64
returns-then-n-lt64 c = rw (one_shifted c.args.n c.if-n-lt64.true) (set_one _ c.if-n-lt64.true)

pub returns-else-n-lt64 : goal.returns-else-n-lt64
returns-else-n-lt64 c = set_none c.args.n c.if-n-lt64.false
