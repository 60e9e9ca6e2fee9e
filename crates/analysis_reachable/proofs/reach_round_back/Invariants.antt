use Rattle.set_words.specs.Views.{ReachAt}
use Rattle.analysis.specs.Rounds.{Backward}
use Rattle.analysis_reachable.proofs.reach_round_back.Given as goal

abbrev pub invariant-loop-k : goal.invariant-loop-k
invariant-loop-k l = Backward (ReachAt l.rows) l.count l.k l.initial.next.0 l.next.0
