use Rattle.std.proofs.Common.{◌≡◌, arith, Err}
use Rattle.std.proofs.lemmas.Grind.{common_steps}
use Rattle.std.proofs.lemmas.Result.{err_from_is_err_and}
use Rattle.refusals.specs.Numbers.{fault_or_zero}
use Rattle.table_counts.specs.Refused.{number_in}
use Rattle.table_read.proofs.Tables.{refused_reads, header_answer, counts_answer, productions_answer}
use Rattle.table_read.proofs.read_table.Goals as goal

pub returns-in_err-map_err-clause-read : goal.returns-in_err-map_err-clause-read
returns-in_err-map_err-clause-read c =
    let p = err_from_is_err_and c.from_residual.result c.from_residual.ensures.1 in
    refused_reads _ p.0 p.1 _ _ _ _ _ (header_answer _ (omega arith) _ c.judge_header.ensures p.0 (grind (arith, common_steps)) (grind (arith, common_steps)))

pub returns-in_err-read_counts-clause-read : goal.returns-in_err-read_counts-clause-read
returns-in_err-read_counts-clause-read c =
    let p = err_from_is_err_and c.from_residual-in_err-read_counts.result c.from_residual-in_err-read_counts.ensures.1 in
    let fine : fault_or_zero c.judge_header.result ≡ 0 = grind (arith, common_steps) in
    let refused : c.read_counts.result ≡ Err p.0 = grind (arith, common_steps) in
    refused_reads _ p.0 p.1 _ _ _ _ _ (counts_answer _ (omega arith) _ c.judge_header.ensures fine _ _ _ _ c.read_counts.ensures.read p.0 refused)

pub returns-clause-read : goal.returns-clause-read
returns-clause-read c =
    let fine : fault_or_zero c.judge_header.result ≡ 0 = grind (arith, common_steps) in
    let counted : number_in c.read_counts.result ≡ 0 = grind (arith, common_steps) in
    productions_answer _ (omega arith) _ c.judge_header.ensures fine _ _ _ _ c.read_counts.ensures.read c.read_after_counts.result _ _ counted c.read_after_counts.ensures.read
