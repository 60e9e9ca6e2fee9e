use Rattle.table_sound_items.proofs.Fields.{comparison_none}
use Rattle.table_sound_items.proofs.is_comparison.Goals as goal

pub returns-then-is_input : goal.returns-then-is_input
returns-then-is_input c = λ e width inh syn n i l.
    comparison_none n width inh syn c.args.body.now l c.requires.0 c.requires.1 c.requires.2 (c.is_input.ensures width inh syn i c.if-is_input.true).0 (c.is_input-then-is_input.ensures width inh syn i e).0
