use Rattle.program_words.specs.Laws as L
use Rattle.program.proofs.directory.mark.Given as goal

abbrev pub invariant-loop-rest : goal.invariant-loop-rest
invariant-loop-rest l = L.MarkGo l.initial.area l.area l.from l.initial.rest l.number l.rest l.u

abbrev pub decreases-loop-rest : goal.decreases-loop-rest
decreases-loop-rest l = l.rest
