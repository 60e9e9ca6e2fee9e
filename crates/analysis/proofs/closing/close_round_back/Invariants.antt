use Rattle.set_words.specs.Views.{ClosedAt}
use Rattle.analysis.specs.Rounds.{Forward}
use Rattle.analysis.specs.Closing.{tokens_in}
use Rattle.analysis.proofs.closing.close_round_back.Given as goal

abbrev pub invariant-loop-k : goal.invariant-loop-k
invariant-loop-k l = Forward (ClosedAt (tokens_in l.free.0) l.rows) l.count l.k l.initial.next.0 l.next.0
