-- What an occurrence is, by number.
use Rattle.std.specs.Prelude.{ℕ}
use Rattle.table_rules.specs.declared.Class.{Class}
use Rattle.table_rules.specs.declared.Class.TheVariants.{Unknown, Input, Output}

abbrev pub class_number : Class → ℕ
class_number Unknown = 0
class_number Input = 1
class_number Output = 2
