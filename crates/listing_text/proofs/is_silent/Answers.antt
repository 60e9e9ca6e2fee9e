use Rattle.std.proofs.Common.{arith, sym, ap, ◌∙◌}
use Rattle.meaning.specs.Program.{test_operation}
use Rattle.listing_text.specs.Tests.{stays_items, stays_outside, stays_add, skips_others}
use lib.Dec.{leb}
use Rattle.listing_text.proofs.is_silent.Goals as goal

pub returns-then-c-gt0 : goal.returns-then-c-gt0
returns-then-c-gt0 c = stays_items c.args.program.now c.args.c c.if-c-gt0.true

pub returns-then-not-is_inside : goal.returns-then-not-is_inside
returns-then-not-is_inside c = stays_outside c.args.program.now c.args.c (omega arith) (sym c.is_inside.ensures.0 ∙ c.if-not-is_inside.true)

pub returns-then-operation-eq-ADD : goal.returns-then-operation-eq-ADD
returns-then-operation-eq-ADD c =
    let inside = sym c.is_inside.ensures.0 ∙ c.if-not-is_inside.false in
    let here = c.index_of.ensures.0 ∙ c.word_or_zero.ensures in
    stays_add c.args.program.now c.args.c (omega arith) c.index_of.result here inside (sym c.operation-operation.ensures ∙ c.if-operation-eq-ADD.true)

pub returns : goal.returns
returns c =
    let inside = sym c.is_inside.ensures.0 ∙ c.if-not-is_inside.false in
    let here = c.index_of.ensures.0 ∙ c.word_or_zero.ensures in
    ap (λ n. leb n test_operation) c.operation-operation.ensures ∙ skips_others c.args.program.now c.args.c (omega arith) c.index_of.result here inside (λ z. c.if-operation-eq-ADD.false (c.operation-operation.ensures ∙ z))
