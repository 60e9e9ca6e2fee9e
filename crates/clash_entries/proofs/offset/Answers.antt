use Rattle.std.proofs.Common.{sym, ap, ◌∙◌, arith}
use borrow.Author.Rules.{sfits_of}
use Rattle.meaning.specs.Value.{added}
use Rattle.clash_entries.proofs.conditions.Laws.{held_size, offset_none, offset_some}
use Rattle.value.proofs.Bits.{held}
use Rattle.clash_entries.proofs.offset.Goals as goal

pub returns-then-byte_at-eq1 : goal.returns-then-byte_at-eq1
returns-then-byte_at-eq1 c = (sym (ap added (offset_none _ _ c.byte_at.ensures.0 c.if-byte_at-eq1.true)), omega arith)

pub returns : goal.returns
returns c =
    let f = sfits_of c.bound_at.type_inv in
    (held f c.bound_at.ensures.0 ∙ sym (ap added (offset_some _ _ c.byte_at.ensures.0 c.if-byte_at-eq1.false)), held_size f c.bound_at.ensures.1)
