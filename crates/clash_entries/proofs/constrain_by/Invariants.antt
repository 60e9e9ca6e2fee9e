use Rattle.std.proofs.Common.{◌≡◌, ◌-◌, ◌≤◌, length}
use Rattle.meaning.specs.Grammar.{Production}
use Rattle.clash_entries.specs.conditions.Walk.{Going}
use Rattle.meaning.specs.Differences.{constrained}
use Rattle.theory_differences.specs.Closing.{Small}
use Rattle.theory_differences.specs.Decided.{limit}
use Rattle.clash_entries.specs.conditions.EntryConditions.{Stretch}
use Rattle.clash_entries.proofs.constrain_by.Given as goal

abbrev pub invariant-loop-at : goal.invariant-loop-at
invariant-loop-at l = (l.at ≤ length l.stretch) × (length l.m ≡ 81) × ((p : Production) → Stretch l.stretch p → Going constrained l.stretch p l.initial.m l.m l.at) × (Small limit l.initial.m → Small limit l.m)

abbrev pub decreases-loop-at : goal.decreases-loop-at
decreases-loop-at l = length l.stretch - l.at
