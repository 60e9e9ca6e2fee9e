use Prim.Native.Nat.{◌≤◌}
use mathlib.Core.Path.{◌≡◌}
use lib.ListN.{length}
use Rattle.meaning.specs.Limits.{attributes_limit}
use Rattle.meaning.specs.Differences.{closed, closing}
use Rattle.theory_differences.specs.Closing.{Small, room}
use Rattle.clash_cycles.proofs.close.Given as goal

abbrev pub invariant-loop-k : goal.invariant-loop-k
invariant-loop-k l = (l.k ≤ attributes_limit) × (closed l.initial.m ≡ closing l.m l.k) × (length l.m ≡ 81) × Small (room l.k) l.m
