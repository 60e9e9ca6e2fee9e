use Rattle.set_words.specs.Views.{ReachAt}
use Rattle.analysis.specs.Rounds.{Forward}
use Rattle.analysis_reachable.proofs.reach_round.Given as goal

abbrev pub invariant-loop-k : goal.invariant-loop-k
invariant-loop-k l = Forward (ReachAt l.rows) l.count l.k l.initial.next.0 l.next.0
