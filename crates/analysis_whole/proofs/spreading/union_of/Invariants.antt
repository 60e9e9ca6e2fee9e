use Rattle.analysis.specs.Spreading.{United}
use Rattle.analysis_whole.proofs.spreading.union_of.Given as goal

abbrev pub invariant-loop-entry : goal.invariant-loop-entry
invariant-loop-entry l = United l.table l.entry-index l.out.0
