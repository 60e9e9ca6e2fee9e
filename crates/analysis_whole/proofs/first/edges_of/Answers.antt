use Rattle.analysis.specs.Fronts.{gathers_start}
use Rattle.analysis_whole.proofs.first.edges_of.Goals as goal

pub loop-k-init : goal.loop-k-init
loop-k-init c = (rw c.requires.1 (gathers_start _ _), rw c.requires.2 (gathers_start _ _))
