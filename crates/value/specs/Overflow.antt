-- No overflow, for all functions but the product: on values every exact result lies strictly between the lowest and the highest 64-bit number, so it fits an i64 and is not the mark.
use Rattle.std.specs.Prelude.{◌≡◌, ℕ, zero, suc, ◌^◌, ◌<◌, ◌≤◌, Bool, true, false, cond, not, ◌&&◌, ℤ, pos, negsuc, ◌+ℤ◌, FitsSigned, ◌≢◌, int_le, unsigned_abs, refl}
use Rattle.std.proofs.Common.{arith, ap, ◌∙◌}
use Rattle.std.proofs.Math.Bool.{and-false}
use Rattle.std.proofs.lemmas.Bool.{lt-leb}
use Rattle.std.specs.Int.Signed.{mag}
use Rattle.std.specs.Int.{w64}
use Rattle.meaning.specs.Value.{in_range, lowest, mark, quotient}
use Rattle.meaning.specs.Calls.{is_mark}
use Rattle.theory_base.specs.Members.{T→true, true→T}
use Rattle.theory_base.specs.Quotients.{value_size, quotient_size, quotient_ranged}
use Rattle.value.specs.Ranged.{ranged, pick_in}
use Rattle.value.specs.Computed.{larger, smaller, computed}
use Rattle.theory_base.specs.Absolute.{nat_abs_add, nat_abs_sub}

-- no value has a larger size
abbrev pub reach : ℕ
reach = unsigned_abs lowest

pub in_range_size : (z : ℤ) → in_range z ≡ true → unsigned_abs z ≤ reach
in_range_size z e = value_size z (true→T (in_range z) e)

pub quotient_in : (a c : ℤ) → in_range a ≡ true → in_range (quotient a c) ≡ true
quotient_in a c e = T→true (in_range (quotient a c)) (quotient_ranged a c (true→T (in_range a) e))

pub large_out : (z : ℤ) → reach < unsigned_abs z → in_range z ≡ false
large_out z h = is_no (in_range z) (λ e. clash (unsigned_abs z) (in_range_size z e) h)
  where
    is_no : (b : Bool) → (b ≢ true) → b ≡ false
    is_no true k = absurd (k refl)
    is_no false k = refl

    clash : (n : ℕ) → n ≤ reach → reach < n → ⊥
    clash n p q = omega arith

-- no value is the mark
pub value_unmarked : (z : ℤ) → in_range z ≡ true → is_mark z ≡ false
value_unmarked (pos n) e = refl
value_unmarked (negsuc n) e = ap (λ b. int_le mark (negsuc n) && b) (lt-leb (mag mark) n (omega (arith, in_range_size (negsuc n) e))) ∙ and-false (int_le mark (negsuc n))

-- so an answer is the mark exactly where the number is no value
pub is_mark_ranged : (z : ℤ) → is_mark (ranged z) ≡ not (in_range z)
is_mark_ranged z = at_pick (in_range z) refl
  where
    at_pick : (b : Bool) → in_range z ≡ b → is_mark (cond b z mark) ≡ not b
    at_pick true e = value_unmarked z e
    at_pick false e = refl

-- strictly between -2 ^ 63 and 2 ^ 63
abbrev pub Fits64 : ℤ → Type 0
Fits64 z = unsigned_abs z < 2 ^ 63

pub fits64 : (z : ℤ) → Fits64 z → FitsSigned w64 z
fits64 (pos n) h = record { sfits = h }
fits64 (negsuc n) h = record { sfits = omega arith }

-- function 4, the product, is left out: its exact result may pass 64 bits or be the number that the mark is, so it is judged before it is made (crate functions, Products)
pub computed_size : (f : ℕ) (a b : ℤ) → (f ≢ 4) → in_range a ≡ true → in_range b ≡ true → Fits64 (computed f a b)
computed_size f a b other p q = each f other
  where
    m : unsigned_abs a ≤ reach
    m = in_range_size a p

    n : unsigned_abs b ≤ reach
    n = in_range_size b q

    itself : Fits64 a
    itself = omega (arith, m)

    plus : Fits64 (a +ℤ b)
    plus = omega (arith, nat_abs_add a b, m, n)

    each : (f : ℕ) → (f ≢ 4) → Fits64 (computed f a b)
    each zero k = itself
    each (suc zero) k = itself
    each (suc (suc zero)) k = plus
    each (suc (suc (suc zero))) k = omega (arith, nat_abs_sub a b, m, n)
    each (suc (suc (suc (suc zero)))) k = absurd (k refl)
    each (suc (suc (suc (suc (suc zero))))) k = omega (arith, in_range_size (larger a b) (pick_in (int_le a b) b a q p))
    each (suc (suc (suc (suc (suc (suc zero)))))) k = omega (arith, in_range_size (smaller a b) (pick_in (int_le a b) a b p q))
    each (suc (suc (suc (suc (suc (suc (suc zero))))))) k = plus
    each (suc (suc (suc (suc (suc (suc (suc (suc zero)))))))) k = omega (arith, quotient_size a b, m)
    each (suc (suc (suc (suc (suc (suc (suc (suc (suc f))))))))) k = omega arith

pub computed_fits : (f : ℕ) (a b : ℤ) → (f ≢ 4) → in_range a ≡ true → in_range b ≡ true → FitsSigned w64 (computed f a b)
computed_fits f a b k p q = fits64 (computed f a b) (computed_size f a b k p q)

pub computed_not_mark : (f : ℕ) (a b : ℤ) → (f ≢ 4) → in_range a ≡ true → in_range b ≡ true → computed f a b ≢ mark
computed_not_mark f a b k p q e = omega (arith, computed_size f a b k p q, ap unsigned_abs e)
