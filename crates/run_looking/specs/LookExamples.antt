-- How what comes next is judged, and which operations look at it.
use Rattle.std.specs.Prelude.{◌≡◌, refl, true, false, [], ◌∷◌, Ok, Err}
use Rattle.refusals.specs.declared.Refusal.TheVariants.{UnknownToken, LimitReached}
use Rattle.run_moves.specs.declared.Halt.TheVariants.{Pause, Refused}
use Rattle.run_looking.specs.Judging.{looks_ahead, judged_of}

-- a read looks at what comes next, a remove does not
read : looks_ahead 2 ≡ true
read = refl

goes_on : looks_ahead 5 ≡ false
goes_on = refl

-- of two tokens the second is taken; the last one that may be; one not below T; one too many; none comes
taken : judged_of 8 65534 (3 ∷ 7 ∷ []) 1 65534 ≡ Ok tt
taken = refl

unknown : judged_of 7 65534 (3 ∷ 7 ∷ []) 1 65534 ≡ Err (Refused UnknownToken)
unknown = refl

too_many : judged_of 7 65534 (3 ∷ 7 ∷ []) 1 65535 ≡ Err (Refused LimitReached)
too_many = refl

none_comes : judged_of 7 65534 (3 ∷ 7 ∷ []) 2 65535 ≡ Err Pause
none_comes = refl
