use Rattle.clash_entries.specs.conditions.Ranks.{rank}
use Rattle.std.proofs.Common.{◌-◌, ◌≤◌, length}
use Rattle.meaning.specs.Grammar.{Production}
use Rattle.clash_entries.specs.conditions.Walk.{Going}
use Rattle.clash_entries.specs.conditions.EntryConditions.{rank_by, raise_by, lower_by, Stretch}
use Rattle.clash_entries.proofs.conditions.entry.narrow_by.Given as goal

abbrev pub invariant-loop-at : goal.invariant-loop-at
invariant-loop-at l = (l.at ≤ length l.stretch) × ((p : Production) → Stretch l.stretch p → Going rank_by l.stretch p 0 (rank l.found) l.at × Going raise_by l.stretch p l.initial.lows l.lows l.at × Going lower_by l.stretch p l.initial.highs l.highs l.at)

abbrev pub decreases-loop-at : goal.decreases-loop-at
decreases-loop-at l = length l.stretch - l.at
