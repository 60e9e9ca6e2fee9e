-- An answer of the writer of house order as three numbers: the length, with 0 and 0; or 0, with the refusal's number and offset.
use Rattle.std.specs.Prelude.{ℕ, ◌≡◌, refl, List, Result, Ok, Err}
use Rattle.std.proofs.Common.{sym, subst}
use Rattle.meaning_house.specs.House.{HouseAnswer, wrote, turned_back}
use Rattle.house_write.specs.Answers.{house_is}
use Rattle.host_answers.specs.declared.housed.TurnedBack.{TurnedBack}
use Rattle.refusals.specs.declared.Refusal.TheVariants.{BufferShort}
use Rattle.refusals.specs.declared.CallRefusal.{CallRefusal}
use Rattle.refusals.specs.declared.CallRefusal.TheVariants.{OfCall}
use Rattle.refusals.specs.Numbers.{call_number, call_offset}

abbrev pub Answered : ℕ → ℕ → ℕ → HouseAnswer → Type 0
Answered size number offset (wrote n) = (size ≡ n) × (number ≡ 0) × (offset ≡ 0)
Answered size number offset (turned_back n o) = (size ≡ 0) × (number ≡ n) × (offset ≡ o)

-- the number and the offset of what turns a call of ours back
abbrev pub told_as : CallRefusal → TurnedBack
told_as r = record { number = call_number r; offset = call_offset r }

-- what is written, or what turns the writing back, whatever says its number and offset
abbrev pub answered_by : {R : Type 0} → (R → TurnedBack) → Result ℕ R → HouseAnswer
answered_by f (Ok n) = wrote n
answered_by f (Err r) = turned_back (f r).number (f r).offset

-- its numbers. By `told_as` they are `Numbered`
abbrev pub NumberedBy : {R : Type 0} → (R → TurnedBack) → ℕ → ℕ → ℕ → Result ℕ R → Type 0
NumberedBy f size number offset w = Answered size number offset (answered_by f w)

-- the numbers of an answer, whatever the buffer holds
abbrev pub Numbered : ℕ → ℕ → ℕ → Result ℕ CallRefusal → Type 0
Numbered size number offset w = (buffer : List ℕ) → Answered size number offset (house_is w buffer).answer

module _ (w : Result ℕ CallRefusal) where
  pub numbered_done : (n : ℕ) → w ≡ Ok n → Numbered n 0 0 w
  numbered_done n q = subst (Numbered n 0 0) (sym q) (λ b. (refl, refl, refl))

  pub numbered_refused : (r : CallRefusal) → w ≡ Err r → Numbered 0 (call_number r) (call_offset r) w
  numbered_refused r q = subst (Numbered 0 (call_number r) (call_offset r)) (sym q) (λ b. (refl, refl, refl))

  pub numbered_short : w ≡ Err (OfCall BufferShort) → Numbered 0 36 0 w
  numbered_short q = numbered_refused (OfCall BufferShort) q

  pub numbered_by : (size number offset : ℕ) → NumberedBy told_as size number offset w → Numbered size number offset w
  numbered_by size number offset n b = by w n
    where
      by : (w : Result ℕ CallRefusal) → NumberedBy told_as size number offset w → Answered size number offset (house_is w b).answer
      by (Ok n) a = a
      by (Err r) a = a
