-- Bits of a number: one set, the lowest ones tested.
use Prim.Native.Nat.{ℕ, zero, suc, ◌+◌, ◌*◌, ◌/◌, ◌%◌, ◌^◌, ◌<◌, max, min}
use mathlib.Core.Path.{◌≡◌, refl, sym, ◌∙◌, ap}
use mathlib.Core.Bool.{Bool, true, false, ◌&&◌, ◌||◌}
use native.Mathlib.Omega.{arith}
use native.Mathlib.Nat.{mod-one, mod-lt, div-one, div-eq_of_lt, zero-lt-suc, pow-suc, one-mul, mod-eq_of_lt}
use lib.Dec.{eqb}
use lib.Arith.{mod-mul}
use lib.Bits.{bit_and, bit_or, and_shr}
use lib.Pow.{pow_pos, pow-lt, shr-shr}
use borrow.Author.Tests.{eq-eqb, ne_eqb, eqb-true, eqb-false}
use Rattle.theory_bits.specs.Bits.{or_at, half_at, pow_same, pow_other, and_low}
use Rattle.table_rules.specs.Rule.{bit, ones}
use Rattle.theory_base.specs.Members.{eqb_both}

-- ---- the lowest bits: (n + 1) % 2 ^ d is 0

half_up : (n d : ℕ) → (n + 1) % 2 ^ suc d ≡ (n + 1) / 2 % 2 ^ d * 2 + (n + 1) % 2
half_up n d = ap (λ (x : ℕ). (n + 1) % x) (pow-suc 2 d) ∙ mod-mul (n + 1) (pow_pos d) (zero-lt-suc 1)

pub ones_tested : (d n : ℕ) → eqb ((n + 1) % 2 ^ d) 0 ≡ ones n d
unfolding ones
ones_tested zero n = eq-eqb _ 0 (mod-one (n + 1))
ones_tested (suc d) n = go (n % 2) refl (ones_tested d (n / 2))
  where
    go : (r : ℕ) → n % 2 ≡ r → eqb ((n / 2 + 1) % 2 ^ d) 0 ≡ ones (n / 2) d → eqb ((n + 1) % 2 ^ suc d) 0 ≡ eqb (n % 2) 1 && ones (n / 2) d
    go zero e ih =
        ne_eqb ((n + 1) % 2 ^ suc d) 0 (λ z. absurd (omega (arith, half_up n d)))
        ∙ sym (ap (λ (x : Bool). x && ones (n / 2) d) (ne_eqb (n % 2) 1 (λ z. omega arith)))
    go (suc r) e ih =
        let h : (n + 1) / 2 ≡ n / 2 + 1 = omega arith in
        let k : (n + 1) % 2 ^ suc d ≡ (n / 2 + 1) % 2 ^ d * 2 + (n + 1) % 2 = half_up n d ∙ ap (λ (x : ℕ). x % 2 ^ d * 2 + (n + 1) % 2) h in
        eqb_both ((n + 1) % 2 ^ suc d) 0 ((n / 2 + 1) % 2 ^ d) 0 (λ z. omega arith) (λ z. omega arith)
        ∙ ih ∙ sym (ap (λ (x : Bool). x && ones (n / 2) d) (eq-eqb (n % 2) 1 (omega arith)))

-- 1 << t within a width
pub one_bit : (w t : ℕ) → t < w → 1 * 2 ^ t % 2 ^ w ≡ 2 ^ t
one_bit w t l = ap (λ (x : ℕ). x % 2 ^ w) (one-mul (2 ^ t)) ∙ mod-eq_of_lt (pow-lt l)

-- ---- one bit more

zero_most : (a b : ℕ) → b ≡ 0 → max a b ≡ a
zero_most a b e = omega arith

-- bit t of n with bit k set
pub bit_set : (n k t : ℕ) → bit (bit_or n (2 ^ k)) t ≡ eqb k t || bit n t
unfolding bit
bit_set n k t = go (eqb k t) refl
  where
    go : (b : Bool) → eqb k t ≡ b → eqb (bit_or n (2 ^ k) / 2 ^ t % 2) 1 ≡ b || eqb (n / 2 ^ t % 2) 1
    go true e =
        let z : 2 ^ k / 2 ^ t % 2 ≡ 1 = ap (λ (x : ℕ). 2 ^ x / 2 ^ t % 2) (eqb-true k t e) ∙ pow_same t in
        eq-eqb (bit_or n (2 ^ k) / 2 ^ t % 2) 1 (omega (arith, or_at n (2 ^ k) t, mod-lt (n / 2 ^ t) (zero-lt-suc 1)))
    go false e =
        let z : 2 ^ k / 2 ^ t % 2 ≡ 0 = pow_other k t (λ q. eqb-false k t e (sym q)) in
        ap (λ (x : ℕ). eqb x 1) (or_at n (2 ^ k) t ∙ zero_most _ _ z)

pub bit_zero : (t : ℕ) → bit 0 t ≡ false
unfolding bit
bit_zero t = ne_eqb (0 / 2 ^ t % 2) 1 (λ z. let e = mod_div_zero t in omega arith)
  where
    mod_div_zero : (t : ℕ) → 0 / 2 ^ t % 2 ≡ 0
    mod_div_zero t = ap (λ (x : ℕ). x % 2) (div-eq_of_lt (pow_pos t))

pub bit_suc : (n t : ℕ) → bit n (suc t) ≡ bit (n / 2) t
unfolding bit
bit_suc n t = ap (λ (x : ℕ). eqb x 1) (half_at n t)

pub bit_first : (n : ℕ) → bit n 0 ≡ eqb (n % 2) 1
unfolding bit
bit_first n = ap (λ (x : ℕ). eqb (x % 2) 1) (div-one n)

pub bit_shifted : (n i t : ℕ) → bit (n / 2 ^ i) t ≡ bit n (i + t)
unfolding bit
bit_shifted n i t = ap (λ (x : ℕ). eqb (x % 2) 1) (shr-shr n i t)

-- ---- the bits that two numbers have

least_one : (x y : ℕ) → x < 2 → y < 2 → eqb (min x y) 1 ≡ eqb x 1 && eqb y 1
least_one x y l m = go (eqb x 1) (eqb y 1) refl refl
  where
    go : (p q : Bool) → eqb x 1 ≡ p → eqb y 1 ≡ q → eqb (min x y) 1 ≡ p && q
    go true true e f = let a = eqb-true x 1 e in let b = eqb-true y 1 f in eq-eqb (min x y) 1 (omega arith)
    go false q e f = ne_eqb (min x y) 1 (λ z. eqb-false x 1 e (omega arith))
    go true false e f = ne_eqb (min x y) 1 (λ z. eqb-false y 1 f (omega arith))

pub bit_both : (a b t : ℕ) → bit (bit_and a b) t ≡ bit a t && bit b t
unfolding bit
bit_both a b t =
    ap (λ (x : ℕ). eqb x 1) (ap (λ (x : ℕ). x % 2) (and_shr a b t) ∙ and_low (a / 2 ^ t) (b / 2 ^ t))
    ∙ least_one (a / 2 ^ t % 2) (b / 2 ^ t % 2) (mod-lt (a / 2 ^ t) (zero-lt-suc 1)) (mod-lt (b / 2 ^ t) (zero-lt-suc 1))
