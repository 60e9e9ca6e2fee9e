-- A number where it is a value, and the mark where it is none: so that one i64 answers both.
use Rattle.std.specs.Prelude.{◌≡◌, Bool, true, false, cond, ℤ, refl}
use Rattle.meaning.specs.Value.{in_range, mark}

abbrev pub ranged : ℤ → ℤ
ranged z = cond (in_range z) z mark

pub mark_out : in_range mark ≡ false
mark_out = refl

pub ranged_in : (z : ℤ) → in_range z ≡ true → ranged z ≡ z
ranged_in z e = rw e

pub ranged_out : (z : ℤ) → in_range z ≡ false → ranged z ≡ mark
ranged_out z e = rw e

-- it is a value exactly where z is
pub in_ranged : (z : ℤ) → in_range (ranged z) ≡ in_range z
in_ranged z = at_pick (in_range z) refl
  where
    at_pick : (b : Bool) → in_range z ≡ b → in_range (cond b z mark) ≡ b
    at_pick true e = e
    at_pick false e = mark_out

-- the larger and the smaller of two values are values
pub pick_in : (t : Bool) (a b : ℤ) → in_range a ≡ true → in_range b ≡ true → in_range (cond t a b) ≡ true
pick_in true a b p q = p
pick_in false a b p q = q
