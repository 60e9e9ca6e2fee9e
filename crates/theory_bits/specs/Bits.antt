-- Bit t of n is n / 2 ^ t % 2: of a union and a meet, of a power of two, and of a half.
use Rattle.std.specs.Prelude.{ℕ, suc, ◌+◌, ◌-◌, ◌/◌, ◌%◌, ◌^◌, ◌<◌, min, max, ◌≡◌}
use Rattle.std.proofs.Common.{mod-lt, zero-lt-suc, pow-suc, one-add, arith, sym, ap, ◌∙◌, subst, pow_pos, pow-add, shr-shr}
use Rattle.std.proofs.Math.Nat.{div_self, div-eq_of_lt, mul-mod_left}
use Rattle.std.proofs.Math.Decide.{dec_lt}
use Rattle.std.specs.Int.Bits.{bit_and, bit_or, or_step, and_step}
use Rattle.std.proofs.lemmas.Nat.{and_shr, or_shr, shl-shr}
use Rattle.std.proofs.Math.Pow.{pow-lt}

or_low : (a b : ℕ) → bit_or a b % 2 ≡ max (a % 2) (b % 2)
or_low a b = let e = or_step a b in omega (arith, mod-lt a (zero-lt-suc 1), mod-lt b (zero-lt-suc 1))

pub and_low : (a b : ℕ) → bit_and a b % 2 ≡ min (a % 2) (b % 2)
and_low a b = let e = and_step a b in omega (arith, mod-lt a (zero-lt-suc 1), mod-lt b (zero-lt-suc 1))

pub or_at : (a b t : ℕ) → bit_or a b / 2 ^ t % 2 ≡ max (a / 2 ^ t % 2) (b / 2 ^ t % 2)
or_at a b t = ap (λ (x : ℕ). x % 2) (or_shr a b t) ∙ or_low (a / 2 ^ t) (b / 2 ^ t)

pub and_at : (a b t : ℕ) → bit_and a b / 2 ^ t % 2 ≡ min (a / 2 ^ t % 2) (b / 2 ^ t % 2)
and_at a b t = ap (λ (x : ℕ). x % 2) (and_shr a b t) ∙ and_low (a / 2 ^ t) (b / 2 ^ t)

pub half_at : (n t : ℕ) → n / 2 ^ suc t % 2 ≡ n / 2 / 2 ^ t % 2
half_at n t = ap (λ (x : ℕ). n / 2 ^ x % 2) (sym (one-add t)) ∙ ap (λ (x : ℕ). x % 2) (sym (shr-shr n 1 t))

pub pow_same : (k : ℕ) → 2 ^ k / 2 ^ k % 2 ≡ 1
pow_same k = ap (λ (x : ℕ). x % 2) (div_self (pow_pos k))

pow_above : (j t : ℕ) → 2 ^ (suc j + t) / 2 ^ t % 2 ≡ 0
pow_above j t =
    ap (λ (x : ℕ). x / 2 ^ t % 2) (pow-add 2 (suc j) t) ∙ ap (λ (x : ℕ). x % 2) (shl-shr (2 ^ suc j) t ∙ pow-suc 2 j)
    ∙ mul-mod_left (2 ^ j) 2

pub pow_other : (k t : ℕ) → (t ≡ k → ⊥) → 2 ^ k / 2 ^ t % 2 ≡ 0
pow_other k t h = go (dec_lt t k)
  where
    go : Dec (t < k) → 2 ^ k / 2 ^ t % 2 ≡ 0
    go (yes l) =
        let e : k ≡ suc (k - suc t) + t = omega arith in
        subst (λ (x : ℕ). 2 ^ x / 2 ^ t % 2 ≡ 0) (sym e) (pow_above (k - suc t) t)
    go (no l) = ap (λ (x : ℕ). x % 2) (div-eq_of_lt (pow-lt (omega arith)))
