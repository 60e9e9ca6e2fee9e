use Rattle.set_words.specs.Views.{members}
use Rattle.analysis.specs.Follows.{BasesTo, EdgesTo, Behind}
use Rattle.analysis_whole.proofs.follow.behinds.Given as goal

abbrev pub invariant-loop-k : goal.invariant-loop-k
invariant-loop-k l =
    Behind (members l.null.0) l.first l.rows l.count (BasesTo (members l.null.0) l.first l.rows l.k) (EdgesTo (members l.null.0) l.rows l.k) l.initial.table l.initial.edges l.table l.edges
