use borrow.Author.Rules.{sfits_of}
use Rattle.judge_nodes.proofs.numbers.Bits.{valued}
use Rattle.std.proofs.Common.{ap, ◌∙◌}
use Rattle.meaning.specs.Table.{signed}
use Rattle.judge_nodes.proofs.values.constant_in.Goals as goal

pub returns : goal.returns
returns c =
    valued (sfits_of c.constant.type_inv) (c.constant.ensures.0 ∙ ap signed c.word_at.ensures) c.constant.ensures.1
