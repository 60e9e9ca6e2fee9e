use Rattle.set_words.specs.Views.{members}
use Rattle.set_words.specs.Growth.{SetsTo}
use Rattle.analysis.specs.Starts.{starts_by}
use Rattle.analysis_whole.proofs.starts.all_starts.Given as goal

abbrev pub invariant-loop-k : goal.invariant-loop-k
invariant-loop-k l = SetsTo (starts_by (members l.null.0) l.first l.follow l.rows) l.k l.sets
