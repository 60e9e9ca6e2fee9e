use borrow.Author.Rules.{rules}
use Rattle.analysis.specs.Tables.{added}
use Rattle.analysis_whole.proofs.spreading.add.Goals as goal

pub returns : goal.returns
returns c = added _ _ _ (search rules)
