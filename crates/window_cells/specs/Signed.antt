-- Signed cells read back from their bits, and their order.
use Rattle.std.specs.Prelude.{ℕ, ◌-◌, ◌≡◌, refl, Bool, true, false, not, List, length, take, drop, leb, ltb, ℤ, pos, negsuc}
use Rattle.std.proofs.Common.{arith, le-leb, ltb-true, ltb-false, length-drop, take_all, SFits, to_z, of_z, to_z-of_z}
use Rattle.std.proofs.lemmas.Bool.{lt-leb}
use Rattle.std.specs.Int.Signed.{lt_z, le_z}
use Rattle.std.specs.Int.{w64}
use Rattle.std.specs.Ordering.{int_eq}
use Rattle.std.proofs.lemmas.Bool.Decides.{same_from_decides, Decides-int_eq}
use Rattle.meaning_window.specs.Window.{same_number}
use Rattle.theory_window.specs.Kept.{same_number_same, same_number_refl}

pub back : (z : ℤ) → SFits w64 z → to_z w64 (of_z w64 z) ≡ z
back z f = to_z-of_z f

-- all cells from `from` on
pub rest_of : (s : List ℤ) (from : ℕ) → take (length s - from) (drop from s) ≡ drop from s
rest_of s from = take_all (length s - from) (drop from s) (omega (arith, length-drop from s))

leb_not : (a b : ℕ) → leb a b ≡ not (ltb b a)
leb_not a b = by (ltb b a) refl
  where
    by : (t : Bool) → ltb b a ≡ t → leb a b ≡ not t
    by true e = lt-leb a b (ltb-true b a e)
    by false e = le-leb a b (ltb-false b a e)

pub le_not_lt : (a b : ℤ) → le_z a b ≡ not (lt_z b a)
le_not_lt (pos a) (pos b) = leb_not a b
le_not_lt (pos a) (negsuc b) = refl
le_not_lt (negsuc a) (pos b) = refl
le_not_lt (negsuc a) (negsuc b) = leb_not b a

-- `==` on signed numbers
pub int_eq_same : (a b : ℤ) → int_eq a b ≡ same_number a b
int_eq_same a b = same_from_decides (int_eq a b) (same_number a b) (Decides-int_eq a b) (same_number_same a b, λ e. rw e (same_number_refl b))
