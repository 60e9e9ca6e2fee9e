use Rattle.clash.specs.Kept.{Stored}
use Rattle.clash.proofs.kept.store.Given as goal

abbrev pub invariant-loop-a : goal.invariant-loop-a
invariant-loop-a l = Stored l.a l.own l.p l.initial.ends l.ends
