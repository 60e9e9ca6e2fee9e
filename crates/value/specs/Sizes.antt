-- The size of a sum, a difference and a product, and of a number between two bounds.
use Rattle.std.specs.Prelude.{◌≡◌, ℕ, suc, ◌*◌, ◌<◌, ◌≤◌, true, false, ◌&&◌, ℤ, pos, negsuc, ◌*ℤ◌, int_le, unsigned_abs, refl}
use Rattle.std.proofs.Common.{mul-le-mul, arith, sym, ◌∙◌, leb-true, leb-false}
use Rattle.std.proofs.Math.Bool.{and-true}
use Rattle.theory_base.specs.Absolute.{nat_abs_neg}

pub nat_abs_mul : (a b : ℤ) → unsigned_abs (a *ℤ b) ≡ unsigned_abs a * unsigned_abs b
nat_abs_mul (pos a) (pos b) = refl
nat_abs_mul (pos a) (negsuc b) = nat_abs_neg (pos (a * suc b))
nat_abs_mul (negsuc a) (pos b) = nat_abs_neg (pos (suc a * b))
nat_abs_mul (negsuc a) (negsuc b) = refl

-- ---- products

pub mul_at_most : (a b : ℤ) (k l : ℕ) → unsigned_abs a ≤ k → unsigned_abs b ≤ l → unsigned_abs (a *ℤ b) ≤ k * l
mul_at_most a b k l p q = rw (nat_abs_mul a b) (mul-le-mul p q)

pub mul_at_least : (a b : ℤ) (k l : ℕ) → k ≤ unsigned_abs a → l ≤ unsigned_abs b → k * l ≤ unsigned_abs (a *ℤ b)
mul_at_least a b k l p q = rw (nat_abs_mul a b) (mul-le-mul p q)

-- ---- bounds

-- between -(k + 1) and h the size is at most k + 1, where h is at most k + 1
pub inside : (z : ℤ) (k h : ℕ) → h ≤ suc k → (int_le (negsuc k) z && int_le z (pos h)) ≡ true → unsigned_abs z ≤ suc k
inside (pos n) k h p e = omega (arith, leb-true n h e)
inside (negsuc n) k h p e = omega (arith, leb-true n k (sym (and-true (int_le (negsuc k) (negsuc n))) ∙ e))

-- outside -(k + 1) and k + 1 the size is above k + 1
pub outside : (z : ℤ) (k : ℕ) → (int_le (negsuc k) z && int_le z (pos (suc k))) ≡ false → suc k < unsigned_abs z
outside (pos n) k e = leb-false n (suc k) e
outside (negsuc n) k e = omega (arith, leb-false n k (sym (and-true (int_le (negsuc k) (negsuc n))) ∙ e))
