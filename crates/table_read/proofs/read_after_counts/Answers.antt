use Rattle.table_read.proofs.Tables.{carriers_refused, carriers_answer}
use Rattle.table_read.proofs.read_after_counts.Goals as goal

pub returns-in-Err-clause-read : goal.returns-in-Err-clause-read
returns-in-Err-clause-read c = carriers_refused _ _ _ _ c.requires _ c.in-Err.ensures

pub returns-clause-read : goal.returns-clause-read
returns-clause-read c = carriers_answer _ _ _ _ c.requires _ c.in-Ok.ensures c.read_productions.result _ _ c.read_productions.ensures.0
