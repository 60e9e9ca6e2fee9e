use Prim.Native.Nat.{◌-◌, ◌^◌}
use Rattle.set_words.specs.Views.{Within, ReachAt}
use Rattle.analysis.specs.Rounds.{Rising}
use Rattle.analysis_reachable.proofs.reach.Given as goal

abbrev pub invariant-loop-all : goal.invariant-loop-all
invariant-loop-all l = Rising (Within (ReachAt l.rows) 0 l.count) l.initial.set.0 l.set.0

abbrev pub decreases-loop-all : goal.decreases-loop-all
decreases-loop-all l = 2 ^ 64 - l.set.0
