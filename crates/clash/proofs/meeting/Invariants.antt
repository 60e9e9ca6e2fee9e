use Rattle.clash.specs.Clashing.{Seen, Meeting}
use Rattle.clash.proofs.meeting.Given as goal

abbrev pub invariant-loop-k : goal.invariant-loop-k
invariant-loop-k l = Seen l.rows l.sets l.k l.seen × Meeting l.rows l.sets l.k l.met.0
