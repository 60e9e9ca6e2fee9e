-- Rules or conditions: as a test, and how many words each takes.
use Rattle.std.specs.Prelude.{ℕ, Bool, true, false}
use Rattle.program_parts.specs.declared.Items.{Items}
use Rattle.program_parts.specs.declared.Items.TheVariants.{Rules, Conditions}

abbrev pub are_rules : Items → Bool
are_rules Rules = true
are_rules Conditions = false

abbrev pub words_of : Items → ℕ
words_of Rules = 2
words_of Conditions = 3
