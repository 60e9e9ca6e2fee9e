use Rattle.std.proofs.Common.{ap, ◌∙◌, to_z-of_z, w64}
use borrow.Author.Rules.{sfits_of}
use Rattle.meaning.specs.Table.{signed}
use Rattle.value.proofs.constant_at.Goals as goal

pub returns : goal.returns
returns c = to_z-of_z {w = w64} (sfits_of c.constant.type_inv) ∙ c.constant.ensures.0 ∙ ap signed c.word_at.ensures
