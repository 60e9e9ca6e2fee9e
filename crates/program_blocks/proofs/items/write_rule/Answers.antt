use native.Mathlib.Omega.{arith}
use Rattle.program_block_words.specs.Laws as L
use lib.ListN.{length-set}
use Rattle.program_blocks.proofs.items.write_rule.Goals as goal

pub second_operand-b-requires : goal.second_operand-b-requires
second_operand-b-requires c = (omega arith, λ l. c.requires.1.second (omega (arith, l, c.byte_in-function.ensures.0)))

pub rule_constant-c-requires : goal.rule_constant-c-requires
rule_constant-c-requires c =
    let whole = c.requires.1 in
    let f = c.byte_in-function.ensures.0 in
    (λ e. whole.constant (omega (arith, e, f)), λ l. whole.behind (omega (arith, l, f)))

pub bounds-area-at-2 : goal.bounds-area-at-2
bounds-area-at-2 c = simp length-set (omega arith)

pub returns : goal.returns
returns c =
    L.rule_written _ _ _ _ _ _ _ _ _ _ _ c.select_at-target.ensures.0 c.byte_in-function.ensures.0 c.first_operand-a.ensures.0 c.second_operand-b.ensures.0 c.rule_constant-c.ensures c.rule_word.ensures
