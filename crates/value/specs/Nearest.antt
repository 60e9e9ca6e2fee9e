-- How the code finds the quotient: by the processor's division, which is toward zero.
use Rattle.std.specs.Prelude.{◌≡◌, ℕ, zero, suc, ◌+◌, ◌/◌, ◌≤◌, true, false, T, ℤ, pos, negsuc, ◌+ℤ◌, ◌-ℤ◌, neg_ℤ, int_div, int_le, nat_le, unsigned_abs, refl}
use Rattle.std.proofs.Math.Nat.{zero-div}
use Rattle.std.proofs.Common.{div-le_self, arith, sym, subst, le→leb, leb→le}
use Rattle.std.proofs.Math.IntN.{pred_ℤ, +ℤ_one, -ℤ_one}
use Rattle.meaning.specs.Value.{floored}
use Rattle.theory_base.specs.Members.{T→true}
use Rattle.theory_base.specs.Quotients.{floored_pos, floored_negsuc}
use Rattle.theory_base.specs.Absolute.{nat_abs_neg}

pub doubled : (c : ℤ) → int_le (pos 1) c ≡ true → int_le (pos 1) (c +ℤ c) ≡ true
doubled (pos c) e = T→true (nat_le 1 (c + c)) (le→leb 1 (c + c) (let h = leb→le 1 c (subst T (sym e) tt) in omega arith))
doubled (negsuc c) e = absurd (subst T (sym e) tt)

pub quot_z_size : (n d : ℤ) → unsigned_abs (int_div n d) ≤ unsigned_abs n
quot_z_size (pos n) (pos d) = div-le_self n d
quot_z_size (pos n) (negsuc d) = rw (nat_abs_neg (pos (n / suc d))) (div-le_self n (suc d))
quot_z_size (negsuc n) (pos d) = rw (nat_abs_neg (pos (suc n / d))) (div-le_self (suc n) d)
quot_z_size (negsuc n) (negsuc d) = div-le_self (suc n) (suc d)

pub floor_nonneg : (n d : ℤ) → int_le (pos 0) n ≡ true → int_le (pos 1) d ≡ true → int_div n d ≡ floored n (unsigned_abs d)
floor_nonneg (pos n) (pos d) p q = sym (floored_pos n d)
floor_nonneg (pos n) (negsuc d) p q = absurd (subst T (sym q) tt)
floor_nonneg (negsuc n) d p q = absurd (subst T (sym p) tt)

pub floor_negative : (n d : ℤ) → int_le (pos 0) n ≡ false → int_le (pos 1) d ≡ true → int_div (n +ℤ pos 1) d -ℤ pos 1 ≡ floored n (unsigned_abs d)
floor_negative (pos n) d p q = absurd (subst T p (le→leb 0 n (omega arith)))
floor_negative (negsuc n) (negsuc d) p q = absurd (subst T (sym q) tt)
floor_negative (negsuc zero) (pos d) p q = rw (floored_negsuc zero d, zero-div d)
floor_negative (negsuc (suc n)) (pos d) p q = rw (floored_negsuc (suc n) d, +ℤ_one (negsuc (suc n)), -ℤ_one (neg_ℤ (pos (suc n / d)))) (past (suc n / d))
  where
    past : (k : ℕ) → pred_ℤ (neg_ℤ (pos k)) ≡ negsuc k
    past zero = refl
    past (suc k) = refl
