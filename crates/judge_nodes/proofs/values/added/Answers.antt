use borrow.Author.Rules.{sfits_of}
use Rattle.judge_nodes.proofs.numbers.Bits.{valued}
use Rattle.std.proofs.Common.{refl}
use Rattle.theory_judge.specs.Judged.{added_none, added_constant}
use Rattle.judge_nodes.proofs.values.added.Goals as goal

pub returns-then-byte_at-eq1 : goal.returns-then-byte_at-eq1
returns-then-byte_at-eq1 c = (added_none _ _ _ c.byte_at.ensures.0 c.if-byte_at-eq1.true refl, refl)

pub returns-else-byte_at-eq1 : goal.returns-else-byte_at-eq1
returns-else-byte_at-eq1 c = valued (sfits_of c.constant_in.type_inv) (added_constant _ _ _ c.byte_at.ensures.0 c.if-byte_at-eq1.false c.constant_in.ensures.0) c.constant_in.ensures.1
