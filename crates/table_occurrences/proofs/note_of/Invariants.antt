use lib.ListN.{get_or}
use Rattle.table_occurrences.specs.OccurrenceBits.{noted_in}
use Rattle.table_occurrences.proofs.Laws.{Filling}
use Rattle.table_occurrences.proofs.note_of.Given as goal

abbrev pub invariant-loop-k : goal.invariant-loop-k
invariant-loop-k l = Filling (λ j. noted_in (get_or l.settled j 0) j (get_or l.inh j 0) (get_or l.syn j 0)) 0 l.k l.note
