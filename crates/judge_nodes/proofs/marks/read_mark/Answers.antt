use Rattle.std.proofs.Common.{sym, ◌∙◌, arith}
use borrow.Author.Rules.{sfits_of}
use Rattle.judge_nodes.proofs.numbers.Bits.{valued}
use Rattle.theory_judge.specs.Marks.{read_record, read_token}
use Rattle.judge_nodes.proofs.marks.read_mark.Goals as goal

pub returns-then-mark-length : goal.returns-then-mark-length
returns-then-mark-length c =
    valued (sfits_of c.value_in.type_inv) (c.value_in.ensures.0 ∙ sym (read_record c.args.sheet.now c.args.values.now c.args.mark c.args.attribute (omega arith))) c.value_in.ensures.1

pub returns-else-mark-length : goal.returns-else-mark-length
returns-else-mark-length c =
    valued (sfits_of c.token_value.type_inv) (c.token_value.ensures.0 ∙ sym (read_token c.args.sheet.now c.args.values.now c.args.mark c.args.attribute (omega arith))) c.token_value.ensures.1
