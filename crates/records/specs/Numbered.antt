-- The number of what stands for a refusal.
use Rattle.std.specs.Prelude.{ℕ, Result, Ok, Err}

-- the number of what a judgement found wrong, by what stands for a refusal; 0 where it found nothing. By `refusal_number` it is `refusal_or_zero`
abbrev pub number_or_zero : {A R : Type 0} → (R → ℕ) → Result A R → ℕ
number_or_zero f (Ok _) = 0
number_or_zero f (Err r) = f r
