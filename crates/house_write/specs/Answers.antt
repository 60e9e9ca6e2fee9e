-- 02's numbers for the writer's answers.
use Rattle.std.specs.Prelude.{ℕ, List, Result, Ok, Err}
use Rattle.meaning_house.specs.House.{HouseCalled, wrote, turned_back}
use Rattle.refusals.specs.declared.CallRefusal.{CallRefusal}
use Rattle.refusals.specs.Numbers.{call_number, call_offset}

-- 02: "A table or sheet written comes with its length"; "An output buffer that is too short is turned back as 36", with 0 beside it; the table's number and offset
abbrev pub house_is : Result ℕ CallRefusal → List ℕ → HouseCalled
house_is (Ok n) buffer = record { answer = wrote n; buffer = buffer }
house_is (Err r) buffer = record { answer = turned_back (call_number r) (call_offset r); buffer = buffer }
