-- 02 (i)'s answers for those of the code.
use Rattle.std.specs.Prelude.{ℕ, List}
use Rattle.meaning_sheet.specs.SheetCalls.{SheetEffect, sheet_effect, sheeted, turned_back, table_turned}
use Rattle.sheet_answers.specs.declared.Answer.{Answer}
use Rattle.sheet_answers.specs.declared.Answer.TheVariants.{Value, Refused, TableRefused}

-- with the sheet's bytes afterwards
abbrev pub sheet_is : Answer → List ℕ → SheetEffect
sheet_is (Value v moves size) out = sheet_effect (sheeted v moves size) out
sheet_is (Refused number tokens) out = sheet_effect (turned_back number tokens) out
sheet_is (TableRefused number offset) out = sheet_effect (table_turned number offset) out
