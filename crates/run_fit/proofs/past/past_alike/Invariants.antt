use Rattle.run_fit.specs.past.Passing.{Passes, repeated, cells_between}
use Rattle.run_fit.proofs.past.past_alike.Given as goal

abbrev pub invariant-loop-turn : goal.invariant-loop-turn
invariant-loop-turn l = Passes l.registers (repeated l._turn (cells_between l.word l.word)) l.at l.reached
