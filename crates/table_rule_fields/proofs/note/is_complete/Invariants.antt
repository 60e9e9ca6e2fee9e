use mathlib.Core.Path.{◌≡◌}
use Prim.Native.Nat.{suc, ◌-◌}
use Rattle.table_rules.specs.Rule.{settled, all_count, complete_note}
use Rattle.table_rule_fields.proofs.note.is_complete.Given as goal

abbrev pub invariant-loop-k : goal.invariant-loop-k
invariant-loop-k l = complete_note l.width l.inh l.syn l.note ≡ all_count (settled l.inh l.syn l.note) l.k (suc l.width - l.k)
