-- Words with the same members are the same number, so that a test of numbers tells whether a set lies in another.
use Rattle.std.specs.Prelude.{ℕ, zero, suc, ◌*◌, ◌/◌, ◌%◌, ◌^◌, ◌<◌, ◌≡◌, refl, Bool, true, false, ◌||◌, T, eqb}
use Rattle.std.proofs.Common.{pow-suc, arith, sym, ◌∙◌, subst, ⊎_elim, true≢false, eqb→eq, eq-eqb}
use Rattle.std.proofs.Math.Arith.{lt-one}
use Rattle.std.specs.Int.Bits.{bit_or}
use Rattle.std.proofs.lemmas.Nat.{or_lt}
use Rattle.theory_base.specs.Members.{true→T, or_cases, or_left, or_right, same_truth}
use Rattle.token_set.specs.SetBits.{bit, has_bit, bit_lt, bit_suc, bit_first}
use Rattle.set_words.specs.Views.{members, Inside}
use Rattle.set_words.specs.Growth.{or_is}

same_bits : (w a b : ℕ) → a < 2 ^ w → b < 2 ^ w → ((t : ℕ) → t < w → bit a t ≡ bit b t) → a ≡ b
same_bits zero a b l m h = lt-one l ∙ sym (lt-one m)
same_bits (suc w) a b l m h =
    let l2 : a < 2 ^ w * 2 = rw pow-suc at l in
    let m2 : b < 2 ^ w * 2 = rw pow-suc at m in
    let q : a / 2 ≡ b / 2 = same_bits w (a / 2) (b / 2) (omega arith) (omega arith) (λ t k. sym (bit_suc a t) ∙ h (suc t) (omega arith) ∙ bit_suc b t) in
    let r : a % 2 ≡ b % 2 = sym (bit_first a) ∙ h 0 (omega arith) ∙ bit_first b in
    omega arith

same_digit : (x y : ℕ) → x < 2 → y < 2 → eqb x 1 ≡ eqb y 1 → x ≡ y
same_digit zero zero l m e = refl
same_digit zero (suc zero) l m e = absurd (true≢false (sym e))
same_digit zero (suc (suc y)) l m e = absurd (omega arith)
same_digit (suc zero) zero l m e = absurd (true≢false e)
same_digit (suc zero) (suc zero) l m e = refl
same_digit (suc zero) (suc (suc y)) l m e = absurd (omega arith)
same_digit (suc (suc x)) y l m e = absurd (omega arith)

same_word : (a b : ℕ) → a < 2 ^ 64 → b < 2 ^ 64 → ((n : ℕ) → members a n ≡ members b n) → a ≡ b
same_word a b l m h = same_bits 64 a b l m (λ t k. same_digit (bit a t) (bit b t) (bit_lt a t) (bit_lt b t) (sym (has_bit a t k) ∙ h t ∙ has_bit b t k))

covered : (x s : ℕ) → x < 2 ^ 64 → s < 2 ^ 64 → Inside (members x) (members s) → bit_or x s ≡ s
covered x s l m i = same_word (bit_or x s) s (or_lt 64 x s l m) m (λ n. or_is x s n ∙ same_truth (members x n || members s n) (members s n) (λ t. ⊎_elim (i n) (λ h. h) (or_cases (members x n) (members s n) t)) (or_right (members x n) (members s n)))

-- r tells whether x lies in s
pub record Covers (x s : ℕ) (r : Bool) : Type 0 where
  pub inside : r ≡ true → Inside (members x) (members s)
  pub outside : r ≡ false → Inside (members x) (members s) → ⊥

-- a set that lies in another adds nothing to it
pub covers : (x s : ℕ) → x < 2 ^ 64 → s < 2 ^ 64 → Covers x s (eqb (bit_or x s) s)
covers x s l m =
    record {
      inside = λ e n t. subst (λ (y : ℕ). T (members y n)) (eqb→eq (bit_or x s) s (true→T _ e)) (rw (or_is x s n) (or_left (members x n) (members s n) t));
      outside = λ e i. true≢false (sym (eq-eqb (bit_or x s) s (covered x s l m i)) ∙ e);
    }
