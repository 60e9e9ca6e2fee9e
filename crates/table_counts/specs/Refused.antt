-- What a reading of a table found wrong, as a number and an offset; both are 0 where it found nothing.
use Rattle.std.specs.Prelude.{ℕ, Result, Ok, Err}
use Rattle.refusals.specs.Numbers.{fault_number}
use Rattle.refusals.specs.declared.TableRefusal.{TableRefusal}

abbrev pub number_in : {A : Type 0} → Result A TableRefusal → ℕ
number_in (Ok _) = 0
number_in (Err r) = fault_number r.fault

abbrev pub offset_in : {A : Type 0} → Result A TableRefusal → ℕ
offset_in (Ok _) = 0
offset_in (Err r) = r.offset
