use Rattle.table_rows.proofs.Placing.{Placing}
use Rattle.outline.specs.Counts.{count_at_value, synthesized_at}
use Rattle.table_rows.proofs.place_counts.Given as goal

abbrev pub invariant-loop-k : goal.invariant-loop-k
invariant-loop-k l = Placing (count_at_value l.inherited) l.body l.inh l.k × Placing (synthesized_at l.carrying.0 l.synthesized) l.body l.syn l.k
