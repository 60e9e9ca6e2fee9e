use mathlib.Core.Path.{sym, ◌∙◌, ap₂}
use Rattle.table_rules.specs.Rule.{in_order_value}
use Rattle.table_sound_items.proofs.Fields.{range_none}
use Rattle.table_sound_items.proofs.is_range.Goals as goal

pub returns-then-is_input : goal.returns-then-is_input
returns-then-is_input c = λ e width inh syn n i l.
    let order = sym (ap₂ in_order_value c.four_at.ensures.0 c.four_at-then-is_input.ensures.0) ∙ sym c.in_order.ensures ∙ e in
    range_none n width inh syn c.args.body.now l c.requires.0 c.requires.1 (c.is_input.ensures width inh syn i c.if-is_input.true).0 order
