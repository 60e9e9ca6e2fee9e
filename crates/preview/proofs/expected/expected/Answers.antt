use native.Mathlib.Omega.{arith}
use Prim.Native.Nat.{◌+◌, ◌*◌}
use mathlib.Core.Path.{sym, ap, ◌∙◌}
use mathlib.Core.Bool.{not}
use lib.Dec.{eqb}
use lib.ListN.{get_or}
use Rattle.meaning.specs.Program.{nothing_operation}
use Rattle.theory_program.specs.Parts.{head_operation}
use Rattle.preview.specs.expected.Expected.{expected_from, from_terminal, from_nonterminal, from_other}
use Rattle.preview.proofs.expected.expected.Goals as goal

pub word_at-word-requires : goal.word_at-word-requires
word_at-word-requires c = c.requires.inside

pub returns-then-operation-eq-READ : goal.returns-then-operation-eq-READ
returns-then-operation-eq-READ c =
    let a = c.args in
    ap (λ z. eqb z a.token) c.operand.ensures ∙ (from_terminal c.word_at-word.result a.program.now a.token (sym c.operation-operation.ensures ∙ c.if-operation-eq-READ.true) ∙ ap (λ z. expected_from z c.args.program.now c.args.token) c.word_at-word.ensures.0)

pub word_at-requires : goal.word_at-requires
word_at-requires c =
    let w = c.word_at-word in
    omega (arith, w.ensures.0, c.operand-then-operation-eq-PREDICT.ensures, c.requires.directory (ap head_operation (sym w.ensures.0) ∙ (sym c.operation-operation.ensures ∙ c.if-operation-eq-PREDICT.true)))

pub returns-then-operation-eq-PREDICT : goal.returns-then-operation-eq-PREDICT
returns-then-operation-eq-PREDICT c =
    let a = c.args in
    let word = c.word_at.ensures.0 ∙ ap (λ n. get_or a.program.now (9 + 64 * n + a.token) 0) c.operand-then-operation-eq-PREDICT.ensures in
    ap (λ z. not (eqb z 0)) word ∙ (from_nonterminal c.word_at-word.result a.program.now a.token (sym c.operation-operation.ensures ∙ c.if-operation-eq-PREDICT.true) ∙ ap (λ z. expected_from z c.args.program.now c.args.token) c.word_at-word.ensures.0)

pub returns : goal.returns
returns c =
    let a = c.args in
    ap (λ z. not (eqb z nothing_operation)) c.operation-operation.ensures ∙ (from_other c.word_at-word.result a.program.now a.token (λ z. c.if-operation-eq-READ.false (c.operation-operation.ensures ∙ z)) (λ z. c.if-operation-eq-PREDICT.false (c.operation-operation.ensures ∙ z)) ∙ ap (λ z. expected_from z c.args.program.now c.args.token) c.word_at-word.ensures.0)

pub overflow_add-row-then-operation-eq-PREDICT : goal.overflow_add-row-then-operation-eq-PREDICT
overflow_add-row-then-operation-eq-PREDICT c = omega (arith, c.word_at-word.ensures.1, c.operand-then-operation-eq-PREDICT.ensures, c.requires.small)
