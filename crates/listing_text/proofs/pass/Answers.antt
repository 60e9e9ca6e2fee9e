use Rattle.listing_text.specs.Tests.{to_rules, to_conditions, past_symbol}
use Prim.Native.Nat.{◌+◌}
use mathlib.Core.Path.{sym, ap, ◌∙◌}
use Rattle.program_parts.specs.declared.Items.TheVariants.{Rules, Conditions}
use Rattle.listing_text.specs.Cursors.{go_on}
use Rattle.listing_text.proofs.pass.Goals as goal

pub returns-then-operation-eq-EVALUATE : goal.returns-then-operation-eq-EVALUATE
returns-then-operation-eq-EVALUATE c =
    let a = c.args in
    let here = c.index_of-head.ensures.0 ∙ c.word_or_zero.ensures in
    c.go_on.ensures
    ∙ (ap (λ n. go_on a.c a.c.passed Rules n (a.c.at + 1)) c.operand-count.ensures ∙ to_rules a.program.now a.c c.index_of-head.result here (sym c.operation-operation.ensures ∙ c.if-operation-eq-EVALUATE.true))

pub returns-then-operation-eq-TEST : goal.returns-then-operation-eq-TEST
returns-then-operation-eq-TEST c =
    let a = c.args in
    let here = c.index_of-head.ensures.0 ∙ c.word_or_zero.ensures in
    c.go_on-then-operation-eq-TEST.ensures
    ∙ (ap (λ n. go_on a.c a.c.passed Conditions n (a.c.at + 1)) c.operand-count.ensures ∙ to_conditions a.program.now a.c c.index_of-head.result here (λ z. c.if-operation-eq-EVALUATE.false (c.operation-operation.ensures ∙ z)) (sym c.operation-operation.ensures ∙ c.if-operation-eq-TEST.true))

pub returns : goal.returns
returns c =
    let a = c.args in
    let here = c.index_of-head.ensures.0 ∙ c.word_or_zero.ensures in
    c.go_on-2.ensures
    ∙ past_symbol a.program.now a.c c.index_of-head.result here (λ z. c.if-operation-eq-EVALUATE.false (c.operation-operation.ensures ∙ z)) (λ z. c.if-operation-eq-TEST.false (c.operation-operation.ensures ∙ z))
