use Prim.Native.Nat.{◌+◌, ◌-◌, ◌≤◌}
use mathlib.Core.Path.{◌≡◌}
use lib.ListN.{drop}
use Rattle.meaning_ranking.specs.Ranking.{valued_of}
use Rattle.theory_ranking.specs.Entries.{entries_of}
use Rattle.rank_report.proofs.totals.valued_count.Given as goal

abbrev pub invariant-loop-i : goal.invariant-loop-i
invariant-loop-i l = (l.i ≤ l.count) × (l.found ≤ l.i) × (valued_of (entries_of l.count l.list) ≡ l.found + valued_of (drop l.i (entries_of l.count l.list)))

abbrev pub decreases-loop-i : goal.decreases-loop-i
decreases-loop-i l = l.count - l.i
