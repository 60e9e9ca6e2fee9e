use mathlib.Core.Path.{ap}
use mathlib.Core.Bool.{not}
use Rattle.table_rule_fields.proofs.note.Gaps.{gaps_answered}
use Rattle.table_rule_fields.proofs.note.has_gap.Goals as goal

pub is_complete-requires : goal.is_complete-requires
is_complete-requires c = c.requires

pub returns : goal.returns
returns c = let q = ap not c.is_complete.ensures in record { answer = q; gap = gaps_answered _ _ _ _ c.requires _ q }
