use Rattle.std.proofs.Common.{ap, ◌∙◌, arith}
use borrow.Author.Rules.{sfits_of}
use Rattle.meaning.specs.Table.{signed}
use Rattle.value.specs.Overflow.{in_range_size}
use Rattle.value.proofs.Bits.{held}
use Rattle.clash_entries.proofs.conditions.Laws.{held_size}
use Rattle.clash_entries.proofs.bound_at.Goals as goal

pub returns : goal.returns
returns c =
    let f = sfits_of c.constant.type_inv in
    (held f (c.constant.ensures.0 ∙ ap signed c.word_at.ensures), held_size f (omega (arith, in_range_size c.constant.result c.constant.ensures.1)))
