use native.Mathlib.Nat.{one-le-pow}
use native.Mathlib.Omega.{arith}
use Rattle.token_set.specs.SetBits.{one_shifted}
use Rattle.analysis.specs.Firsts.{first_in}
use Rattle.analysis.proofs.closing.first_of.Goals as goal

pub overflow_sub-result : goal.overflow_sub-result
overflow_sub-result c = rw (one_shifted c.args.n (omega arith)) (one-le-pow c.args.n 2 (omega arith))

pub returns : goal.returns
returns c = λ a h. rw (one_shifted c.args.n (omega arith)) (first_in c.args.n a (omega arith) h)
