-- The answer of the call that writes a tree's sheet, as the numbers that a host lends.
use Rattle.std.specs.Prelude.{ℕ, ◌≡◌, List, [], ℤ, pos}
use Rattle.std.proofs.Common.{sym, subst}
use Rattle.meaning_sheet.specs.SheetCalls.{SheetAnswer, sheeted, turned_back, table_turned, sheet_effect, Sheets}
use Rattle.sheet_answers.specs.Answers.{sheet_is}
use Rattle.sheet_answers.specs.declared.Answer as Answer
use Rattle.sheet_answers.specs.declared.Answer.TheVariants.{Value, Refused, TableRefused}

-- the answer without the sheet's bytes
abbrev pub answer_of : Answer.Answer → SheetAnswer
answer_of a = (sheet_is a []).answer

-- 0, the value, the moves and the sheet's length; or a refusal's number, 0, what stands beside it, and 0
abbrev pub LentAs : SheetAnswer → ℕ → ℤ → ℕ → ℕ → Type 0
LentAs (sheeted v moves size) number value count length = (number ≡ 0) × (value ≡ v) × (count ≡ moves) × (length ≡ size)
LentAs (turned_back n tokens) number value count length = (number ≡ n) × (value ≡ pos 0) × (count ≡ tokens) × (length ≡ 0)
LentAs (table_turned n offset) number value count length = (number ≡ n) × (value ≡ pos 0) × (count ≡ offset) × (length ≡ 0)

-- the sheet's bytes are out before, and after afterwards
pub record SheetLent (bs : List ℕ) (r p : ℕ) (ks : List ℕ) (vs : List ℤ) (out after : List ℕ) (number : ℕ) (value : ℤ) (count length : ℕ) : Type 0 where
  pub answer : SheetAnswer
  pub written : Sheets bs r p ks vs out (sheet_effect answer after)
  pub lent : LentAs answer number value count length

-- an answer by the numbers of each case
pub lent_as_lem : (r d : Answer.Answer) (number : ℕ) (value : ℤ) (count length : ℕ) → r ≡ d → LentAs (answer_of d) number value count length → LentAs (answer_of r) number value count length
lent_as_lem r d number value count length e = subst (λ z. LentAs (answer_of z) number value count length) (sym e)

module _ (bs : List ℕ) (r p : ℕ) (ks : List ℕ) (vs : List ℤ) (out after : List ℕ) (number : ℕ) (value : ℤ) (count length : ℕ) where
  pub sheet_lent : (a : Answer.Answer) → Sheets bs r p ks vs out (sheet_is a after) → LentAs (answer_of a) number value count length → SheetLent bs r p ks vs out after number value count length
  sheet_lent (Value v moves size) w l = record { answer = sheeted v moves size; written = w; lent = l }
  sheet_lent (Refused n tokens) w l = record { answer = turned_back n tokens; written = w; lent = l }
  sheet_lent (TableRefused n offset) w l = record { answer = table_turned n offset; written = w; lent = l }
