use Rattle.std.proofs.Common.{◌+◌, ◌*◌, ap₂, rules}
use Rattle.theory_judge.specs.Longs.{bits_at}
use Rattle.judge_nodes.proofs.numbers.bits_at.Goals as goal

pub returns : goal.returns
unfolding bits_at
returns c = ap₂ (λ x y. x * 4294967296 + y) (search rules) (search rules)
