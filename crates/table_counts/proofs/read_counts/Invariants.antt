use Rattle.table_counts.proofs.Counting.{Counting}
use Rattle.table_counts.proofs.read_counts.Given as goal

abbrev pub invariant-loop-n : goal.invariant-loop-n
invariant-loop-n l = Counting l.table l.n l.inherited l.synthesized
