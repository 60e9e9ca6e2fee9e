-- The writer of 02 (a): "Add a writer that puts an accepted table into house order". Any bytes as a table, any buffer.
use Rattle.std.specs.Prelude.{ℕ, true, false, length, ltb}
use Rattle.meaning.specs.Grammar.{TableBytes, ByteBuffer}
use Rattle.meaning.specs.Table.{grammar_of}
use Rattle.meaning.specs.PublicCalls.{usable, unusable, check, written}
use Rattle.meaning_house.specs.Order.{house_bytes}

pub data HouseAnswer : Type 0 where
  -- 02: "A table or sheet written comes with its length"
  wrote : ℕ → HouseAnswer
  -- one of the table's numbers with its offset, or 36 with 0
  turned_back : ℕ → ℕ → HouseAnswer

pub record HouseCalled : Type 0 where
  pub answer : HouseAnswer
  pub buffer : ByteBuffer

abbrev pub writing : TableBytes → ByteBuffer → HouseCalled
writing table buffer = elim (ltb (length buffer) (length table)) [
  | true ↦ record { answer = turned_back 36 0; buffer = buffer }
  | false ↦ record { answer = wrote (length table); buffer = written table buffer }
]

-- 02: "An output buffer that is too short is turned back as 36, after the table's own refusals and with nothing written"
abbrev pub house_of : TableBytes → ByteBuffer → HouseCalled
house_of bs buffer = elim (check bs) [
  | unusable n o ↦ record { answer = turned_back n o; buffer = buffer }
  | usable s ↦ writing (house_bytes (grammar_of s)) buffer
]
