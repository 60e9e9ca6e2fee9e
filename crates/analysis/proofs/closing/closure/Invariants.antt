use Prim.Native.Nat.{◌-◌, ◌^◌}
use Rattle.set_words.specs.Views.{Within, ClosedAt}
use Rattle.analysis.specs.Rounds.{Rising}
use Rattle.analysis.specs.Closing.{tokens_in}
use Rattle.analysis.proofs.closing.closure.Given as goal

abbrev pub invariant-loop-free : goal.invariant-loop-free
invariant-loop-free l = Rising (Within (ClosedAt (tokens_in l.free.0) l.rows) 0 l.count) 0 l.set.0

abbrev pub decreases-loop-free : goal.decreases-loop-free
decreases-loop-free l = 2 ^ 64 - l.set.0
