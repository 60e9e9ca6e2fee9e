use Rattle.table_occurrence_words.proofs.Along.{Along}
use Rattle.table_occurrence_words.proofs.place_right.Given as goal

abbrev pub invariant-loop-k : goal.invariant-loop-k
invariant-loop-k l =
    Along l.initial.rows l.p l.body l.sizes.terminals l.sizes.nonterminals l.sizes.carrying.0 l.inherited l.synthesized l.rows l.inputs l.settled l.word.0 l.last.symbol l.last.bit.0 l.last.inputs l.last.others l.k
