use mathlib.Core.Path.{ap₂}
use Rattle.program_words.specs.Fields.{fields_at}
use Rattle.program_fields.proofs.fields_of.Goals as goal

pub returns : goal.returns
returns c =
    ap₂ (fields_at c.args.table.now) c.fields_from-from.ensures c.stretch_end-to.ensures
