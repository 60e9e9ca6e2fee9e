-- What the writer of house order passes on, in lent numbers.
use Rattle.std.specs.Prelude.{ℕ, ◌≡◌, refl, List, Result, Ok, Err}
use Rattle.std.proofs.Common.{subst}
use Rattle.meaning_house.specs.House.{HouseCalled}
use Rattle.house_write.specs.Answers.{house_is}
use Rattle.refusals.specs.declared.CallRefusal.{CallRefusal}
use Rattle.host_answers.specs.housed.HouseNumbers.{Answered, Numbered}

-- the answer as three numbers, and the buffer
abbrev pub Housed : ℕ → ℕ → ℕ → List ℕ → HouseCalled → Type 0
Housed size number offset buffer c = Answered size number offset c.answer × (buffer ≡ c.buffer)

same_buffer : (w : Result ℕ CallRefusal) (buffer : List ℕ) → buffer ≡ (house_is w buffer).buffer
same_buffer (Ok n) buffer = refl
same_buffer (Err r) buffer = refl

pub housed_numbered : (w : Result ℕ CallRefusal) (size number offset : ℕ) (buffer : List ℕ) (c : HouseCalled) → house_is w buffer ≡ c → Numbered size number offset w → Housed size number offset buffer c
housed_numbered w size number offset buffer c e t = subst (Housed size number offset buffer) e (t buffer, same_buffer w buffer)
