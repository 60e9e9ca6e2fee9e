use borrow.Author.Rules.{sfits_of}
use Rattle.judge_nodes.proofs.numbers.Bits.{valued}
use Rattle.theory_judge.specs.Judged.{first_constant, first_occurrence}
use Rattle.judge_nodes.proofs.values.first.Goals as goal

pub returns-then-function-eq0 : goal.returns-then-function-eq0
returns-then-function-eq0 c = valued (sfits_of c.constant_in.type_inv) (first_constant _ _ _ _ c.if-function-eq0.true c.constant_in.ensures.0) c.constant_in.ensures.1

pub returns-else-function-eq0 : goal.returns-else-function-eq0
returns-else-function-eq0 c = valued (sfits_of c.occurrence.type_inv) (first_occurrence _ _ _ _ c.if-function-eq0.false c.occurrence.ensures.0) c.occurrence.ensures.1
