use mathlib.Core.Path.{sym, ◌∙◌}
use native.Mathlib.Omega.{arith}
use Rattle.table_rule_fields.proofs.Sound.{class_bytes}
use Rattle.table_occurrence_rules.proofs.is_input.Goals as goal

pub returns-then-attribute-lt16 : goal.returns-then-attribute-lt16
returns-then-attribute-lt16 c = λ width inh syn i e.
    (class_bytes _ _ _ _ _ _ _ c.wide-position.ensures.0 c.wide-attribute.ensures.0 (i.each _ _ (omega arith) (omega arith) (sym c.bit_of.ensures ∙ e)), omega arith)
