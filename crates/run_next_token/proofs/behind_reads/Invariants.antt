use Prim.Native.Nat.{◌+◌, ◌-◌, ◌≤◌}
use mathlib.Core.Path.{◌≡◌}
use Rattle.run_moves.specs.declared.Run.{Run}
use Rattle.run_next_token.specs.Following.{Within, FollowBy}
use Rattle.run_next_token.proofs.behind_reads.Given as goal

abbrev pub invariant-loop-i : goal.invariant-loop-i
invariant-loop-i l =
    (l.initial.at ≤ l.at) × (l.i ≡ l.initial.i + (l.at - l.initial.at)) × ((run : Run) → run.at ≡ l.initial.at → Within l.limits.most l.kinds l.initial.i run l.till → FollowBy l.limits.bound l.limits.most l.program l.kinds l.initial.i run (l.at - l.initial.at))

abbrev pub decreases-loop-i : goal.decreases-loop-i
decreases-loop-i l = l.till - l.i
