-- A signed local holds bits: what is read back from them.
use Rattle.std.proofs.Common.{◌≡◌, ◌<◌, Bool, true, false, cond, T, ℤ, pos, negsuc, sym, refl, ◌∙◌, subst, arith, to_z-of_z, w64, SFits, to_z, of_z, leb-true}
use lib.Signed.{le_z}
use Rattle.meaning.specs.Value.{in_range, mark}
use Rattle.value.specs.Ranged.{ranged}
use Rattle.value.specs.Overflow.{in_range_size, fits64}

-- a number that a signed local holds
pub held : {z y : ℤ} → SFits w64 z → z ≡ y → to_z w64 (of_z w64 z) ≡ y
held f e = to_z-of_z f ∙ e

pub in_range_fits : (z : ℤ) → in_range z ≡ true → SFits w64 z
in_range_fits z e = fits64 z (omega (arith, in_range_size z e))

pub ranged_fits : (z : ℤ) → SFits w64 (ranged z)
ranged_fits z = at_pick (in_range z) refl
  where
    at_pick : (b : Bool) → in_range z ≡ b → SFits w64 (cond b z mark)
    at_pick true e = in_range_fits z e
    at_pick false e = record { sfits = omega arith }

-- an answer of `within`, read back
pub answer : {r x y : ℤ} → r ≡ ranged x → x ≡ y → to_z w64 (of_z w64 r) ≡ ranged y
answer {y = y} e d = rw (e, d) (to_z-of_z (ranged_fits y))

-- an operation on the bits of two locals is one on the locals
pub locals : (op : ℤ → ℤ → ℤ) (a b : ℤ) → SFits w64 a → SFits w64 b → op (to_z w64 (of_z w64 a)) (to_z w64 (of_z w64 b)) ≡ op a b
locals op a b p q = rw (to_z-of_z p, to_z-of_z q)

-- its result fits, and is read back
pub fits2 : (op : ℤ → ℤ → ℤ) (a b : ℤ) → SFits w64 a → SFits w64 b → SFits w64 (op a b) → SFits w64 (op (to_z w64 (of_z w64 a)) (to_z w64 (of_z w64 b)))
fits2 op a b p q r = rw (locals op a b p q) r

pub through2 : (op : ℤ → ℤ → ℤ) (a b : ℤ) → SFits w64 a → SFits w64 b → SFits w64 (op a b) → to_z w64 (of_z w64 (op (to_z w64 (of_z w64 a)) (to_z w64 (of_z w64 b)))) ≡ op a b
through2 op a b p q r = rw (locals op a b p q) (to_z-of_z r)

-- the same with what is known of two operands as they are read back
pub op_fits : (op : ℤ → ℤ → ℤ) {x y a b : ℤ} → x ≡ a → y ≡ b → SFits w64 (op a b) → SFits w64 (op x y)
op_fits op e d r = rw (e, d) r

pub op_back : (op : ℤ → ℤ → ℤ) {x y a b : ℤ} → x ≡ a → y ≡ b → SFits w64 (op a b) → to_z w64 (of_z w64 (op x y)) ≡ op a b
op_back op e d r = rw (e, d) (to_z-of_z r)

pub positive_bits : (d : ℤ) → le_z (pos 1) d ≡ true → 0 < of_z w64 d
positive_bits (pos n) e = leb-true 1 n e
positive_bits (negsuc n) e = absurd (subst T (sym e) tt)
