use Rattle.program_words.specs.Nexts.{NextsGo}
use Rattle.program.proofs.record.find_nexts.Given as goal

abbrev pub invariant-loop-p : goal.invariant-loop-p
invariant-loop-p l = NextsGo l.rows l.count l.p l.nexts l.firsts
