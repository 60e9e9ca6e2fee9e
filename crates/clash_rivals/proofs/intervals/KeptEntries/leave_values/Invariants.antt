use Prim.Native.Nat.{ℕ, ◌<◌}
use Rattle.clash_rivals.proofs.intervals.Laws.{Shared}
use Rattle.clash_rivals.proofs.intervals.KeptEntries.leave_values.Given as goal

abbrev pub invariant-loop-a : goal.invariant-loop-a
invariant-loop-a l = (j : ℕ) → j < l.a → Shared l.self.lows l.self.highs l.p l.q j
