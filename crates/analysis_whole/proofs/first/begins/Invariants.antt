use lib.ListN.{drop}
use Rattle.outline.specs.Images.{right_at}
use Rattle.set_words.specs.Views.{members}
use Rattle.analysis.specs.Fronts.{Scanned}
use Rattle.analysis_whole.proofs.first.begins.Given as goal

abbrev pub invariant-loop-i : goal.invariant-loop-i
invariant-loop-i l = Scanned (members l.null.0) l.table l.after.0 (right_at l.rows l.k) l.out.0 (drop l.i (right_at l.rows l.k))
