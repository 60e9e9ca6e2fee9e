use Rattle.clash.specs.Clashing.{Seen, Apart}
use Rattle.clash.proofs.first_crossing.Given as goal

abbrev pub invariant-loop-k : goal.invariant-loop-k
invariant-loop-k l = Seen l.rows l.sets l.k l.seen × Apart l.rows l.sets l.k
