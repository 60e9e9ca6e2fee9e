use lib.ListN.{drop}
use Rattle.outline.specs.Images.{right_at}
use Rattle.set_words.specs.Views.{members}
use Rattle.analysis.specs.Fronts.{Heading}
use Rattle.analysis_whole.proofs.first.front_of.Given as goal

abbrev pub invariant-loop-i : goal.invariant-loop-i
invariant-loop-i l = Heading (members l.null.0) (right_at l.rows l.k) l.heads.0 (drop l.i (right_at l.rows l.k))
