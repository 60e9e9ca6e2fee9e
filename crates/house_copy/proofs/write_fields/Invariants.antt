use Rattle.house_copy.proofs.Writing.{Filled}
use Rattle.house_copy.proofs.write_fields.Given as goal

abbrev pub invariant-loop-offset : goal.invariant-loop-offset
invariant-loop-offset l = Filled l.table l.order l.initial.out l.to l.offset-index l.at l.out
