use Prim.Native.Nat.{◌*◌, ◌≤◌}
use mathlib.Core.Path.{◌≡◌}
use lib.ListN.{drop}
use lib.IntN.{nat_abs, ◌+ℤ◌}
use Rattle.meaning_ranking.specs.Ranking.{total_of}
use Rattle.theory_ranking.specs.Entries.{entries_of}
use Rattle.value.specs.Overflow.{reach}
use Rattle.rank_report.proofs.totals.total.Given as goal

abbrev pub invariant-loop-i : goal.invariant-loop-i
invariant-loop-i l = (total_of (entries_of l.count l.list) ≡ l.sum +ℤ total_of (drop l.i (entries_of l.count l.list))) × (nat_abs (l.sum) ≤ reach * l.i)
