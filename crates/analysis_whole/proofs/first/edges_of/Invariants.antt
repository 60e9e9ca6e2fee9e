use Rattle.set_words.specs.Views.{members}
use Rattle.analysis.specs.Fronts.{Gathers, heads_by, leading_by}
use Rattle.analysis_whole.proofs.first.edges_of.Given as goal

abbrev pub invariant-loop-k : goal.invariant-loop-k
invariant-loop-k l = Gathers (heads_by (members l.null.0) l.rows) l.rows l.k l.edges × Gathers (leading_by (members l.null.0) l.rows) l.rows l.k l.sets
