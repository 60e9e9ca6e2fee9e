use Rattle.std.proofs.Common.{arith}
use borrow.Author.Rules.{sfits_of}
use Rattle.judge_nodes.proofs.numbers.Bits.{valued}
use Rattle.theory_judge.specs.Judged.{second_constant, second_occurrence}
use Rattle.judge_nodes.proofs.values.second.Goals as goal

pub returns-then-function-lt7 : goal.returns-then-function-lt7
returns-then-function-lt7 c = valued (sfits_of c.occurrence.type_inv) (second_occurrence _ _ _ _ (omega arith) c.occurrence.ensures.0) c.occurrence.ensures.1

pub returns-else-function-lt7 : goal.returns-else-function-lt7
returns-else-function-lt7 c = valued (sfits_of c.constant_in.type_inv) (second_constant _ _ _ _ (omega arith) c.constant_in.ensures.0) c.constant_in.ensures.1
