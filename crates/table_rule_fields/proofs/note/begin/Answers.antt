use mathlib.Core.Path.{refl}
use Rattle.table_rule_fields.proofs.note.Noting.{notes_begin}
use Rattle.table_rule_fields.proofs.note.begin.Goals as goal

pub returns : goal.returns
returns c = record { none = notes_begin; zeros = refl }
