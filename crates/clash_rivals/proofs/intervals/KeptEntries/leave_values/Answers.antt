use Rattle.std.proofs.Common.{◌≡◌, arith}
use Rattle.meaning.specs.Limits.{attributes_limit}
use Rattle.clash_rivals.proofs.intervals.Laws.{values_left, none_left}
use Rattle.clash_rivals.proofs.intervals.KeptEntries.leave_values.Goals as goal

pub returns-then-self-j : goal.returns-then-self-j
returns-then-self-j c = none_left _ _ _ _ c.loop-a.a (omega arith) (grind arith)

pub returns : goal.returns
returns c = let e : c.loop-a.a ≡ attributes_limit = omega arith in values_left _ _ _ _ (rw e at c.loop-a.invariant)
