use Prim.Native.Nat.{◌≤◌}
use mathlib.Core.Path.{◌≡◌}
use lib.ListN.{length}
use Rattle.meaning.specs.Differences.{row_relaxed}
use Rattle.clash_cycles.proofs.relax_row.Given as goal

abbrev pub invariant-loop-j : goal.invariant-loop-j
invariant-loop-j l = (l.j ≤ l.k) × (l.m ≡ row_relaxed l.initial.m l.k l.i l.j) × (length l.m ≡ 81)
