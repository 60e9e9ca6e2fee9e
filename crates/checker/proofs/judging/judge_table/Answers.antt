use Rattle.std.proofs.Common.{◌≡◌, arith, Ok, Err}
use Rattle.std.proofs.lemmas.Grind.{common_steps}
use Rattle.std.proofs.lemmas.Result.{err_from_is_err_and}
use Rattle.checker.proofs.Answers.{read_refused, read_accepted, read_rejected}
use Rattle.checker.proofs.judging.judge_table.Goals as goal

pub returns-in_err-sizes : goal.returns-in_err-sizes
returns-in_err-sizes c =
    let p = err_from_is_err_and c.from_residual.result c.from_residual.ensures.1 in
    let refused : c.read_table.result ≡ Err p.0 = grind (arith, common_steps) in
    rw p.1 (read_refused _ _ _ _ _ _ c.read_table.ensures.read _ _ refused)

pub returns-in_err-judge_grammar : goal.returns-in_err-judge_grammar
returns-in_err-judge_grammar c =
    let p = err_from_is_err_and c.from_residual-in_err-judge_grammar.result c.from_residual-in_err-judge_grammar.ensures.1 in
    let read : c.read_table.result ≡ Ok c.in_ok-sizes.sizes = grind (arith, common_steps) in
    let refused : c.judge_grammar.result ≡ Err p.0 = grind (arith, common_steps) in
    rw p.1 (read_rejected _ _ _ _ _ _ c.read_table.ensures.read _ read _ _ c.judge_grammar.ensures _ refused)

pub returns : goal.returns
returns c =
    let read : c.read_table.result ≡ Ok c.in_ok-sizes.sizes = grind (arith, common_steps) in
    let judged : c.judge_grammar.result ≡ Ok tt = grind (arith, common_steps) in
    read_accepted _ _ _ _ _ _ c.read_table.ensures.read _ read _ _ c.judge_grammar.ensures _ judged
