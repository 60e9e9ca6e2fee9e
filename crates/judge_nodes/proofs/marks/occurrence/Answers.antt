use borrow.Author.Rules.{rules, sfits_of}
use Rattle.judge_nodes.proofs.numbers.Bits.{valued}
use Rattle.theory_judge.specs.Judged.{occurrence_is}
use Rattle.judge_nodes.proofs.marks.occurrence.Goals as goal

pub returns : goal.returns
returns c =
    valued (sfits_of c.read_mark.type_inv) (occurrence_is _ _ _ _ _ _ _ _ _ c.byte_at-position.ensures.0 c.byte_at-attribute.ensures.0 (search rules) c.read_mark.ensures.0) c.read_mark.ensures.1
