use borrow.Author.Rules.{sfits_of}
use Rattle.judge_nodes.proofs.numbers.Bits.{in_held}
use Rattle.theory_judge.specs.Judged.{rule_is}
use Rattle.value.proofs.Bits.{held}
use Rattle.judge_nodes.proofs.values.rule_holds.Goals as goal

pub compute-c-requires : goal.compute-c-requires
compute-c-requires c =
    (in_held c.first-a.result (sfits_of c.first-a.type_inv) c.first-a.ensures.1, in_held c.second-b.result (sfits_of c.second-b.type_inv) c.second-b.ensures.1)

pub returns : goal.returns
returns c =
    rule_is _ _ c.byte_at-function.result _ _ _ _ _ c.byte_at-function.ensures.0 (held (sfits_of c.first-a.type_inv) c.first-a.ensures.0) (held (sfits_of c.second-b.type_inv) c.second-b.ensures.0)
    (held (sfits_of c.compute-c.type_inv) c.compute-c.ensures) (held (sfits_of c.occurrence-target.type_inv) c.occurrence-target.ensures.0) c.in_bounds.ensures
