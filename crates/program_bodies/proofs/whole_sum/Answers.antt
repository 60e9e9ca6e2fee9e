use Prim.Native.Nat.{◌+◌, ◌-◌}
use native.Mathlib.Omega.{arith}
use mathlib.Core.Path.{◌≡◌, ap, ◌∙◌}
use Rattle.meaning.specs.Table.{byte}
use Rattle.program_body_words.specs.Schemes as S
use Rattle.program_bodies.proofs.whole_sum.Goals as goal

pub returns-then-size-eq0 : goal.returns-then-size-eq0
returns-then-size-eq0 c = λ fs ss ms ls x. S.sum_none x _ c.row_size-size.ensures.0 (omega arith)

pub overflow_sub-size : goal.overflow_sub-size
overflow_sub-size c = omega arith

pub row_symbol-requires : goal.row_symbol-requires
row_symbol-requires c = omega (arith, c.row_size-size.ensures.1)

pub overflow_sub-result : goal.overflow_sub-result
overflow_sub-result c =
    let n = c.row_size-size.result in
    let last : c.row_symbol.result ≡ byte c.args.row.now (n + 1) = c.row_symbol.ensures.0 ∙ ap (byte c.args.row.now) {x = n - 1 + 2} {y = n + 1} (omega arith) in
    S.own_below c.requires.1.1.1.1 _ c.row_size-size.ensures.0 (omega arith) last c.count_of-own.ensures c.word_or_zero.ensures

pub returns : goal.returns
returns c =
    let n = c.row_size-size.result in
    let last : c.row_symbol.result ≡ byte c.args.row.now (n + 1) = c.row_symbol.ensures.0 ∙ ap (byte c.args.row.now) {x = n - 1 + 2} {y = n + 1} (omega arith) in
    λ fs ss ms ls x. S.sum_some x _ c.row_size-size.ensures.0 (omega arith) last c.count_of-own.ensures c.word_or_zero.ensures
