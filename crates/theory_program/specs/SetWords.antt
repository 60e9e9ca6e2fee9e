-- A token set as two words: bit u of the first is token u, bit u of the second is token 32 + u.
use Rattle.std.specs.Prelude.{ℕ, zero, suc, ◌+◌, ◌*◌, ◌/◌, ◌%◌, ◌^◌, ◌≤◌, ◌<◌, ◌≡◌, refl, Bool, true, false, cond, eqb}
use Rattle.std.proofs.Common.{arith, sym, ap, ◌∙◌, shr-shr, pow-add}
use Rattle.meaning.specs.Sets.{TokenSet, has}
use Rattle.meaning.specs.Program.{set_bits}

-- ---- with another weight for the first place

bit_scaled : (b : Bool) (w : ℕ) → cond b w 0 ≡ w * cond b 1 0
bit_scaled true w = omega arith
bit_scaled false w = omega arith

scaled : (s : TokenSet) (k w n : ℕ) → set_bits s k w n ≡ w * set_bits s k 1 n
scaled s k w zero = omega arith
scaled s k w (suc n) =
    let x : ℕ = set_bits s (suc k) 1 n in
    let b : ℕ = cond (has s k) 1 0 in
    let step : b + 2 * x ≡ set_bits s k 1 (suc n) = omega (arith, scaled s (suc k) 2 n) in
    let here : cond (has s k) w 0 + set_bits s (suc k) (w + w) n ≡ w * b + (w + w) * x = omega (arith, bit_scaled (has s k) w, scaled s (suc k) (w + w) n) in
    here ∙ (spread w b x ∙ ap (λ y. w * y) step)
  where
    spread : (w b x : ℕ) → w * b + (w + w) * x ≡ w * (b + 2 * x)
    spread w b x = omega arith

-- the first place, and twice the others
pub bits_step : (s : TokenSet) (k n : ℕ) → set_bits s k 1 (suc n) ≡ cond (has s k) 1 0 + 2 * set_bits s (suc k) 1 n
bits_step s k n = omega (arith, scaled s (suc k) 2 n)

bit_small : (b : Bool) → cond b 1 0 ≤ 1
bit_small true = omega arith
bit_small false = omega arith

two_more : (n : ℕ) → 2 ^ suc n ≡ 2 * 2 ^ n
two_more n = ap (λ m. 2 ^ m) (omega arith) ∙ pow-add 2 1 n

pub bits_small : (s : TokenSet) (k n : ℕ) → set_bits s k 1 n < 2 ^ n
bits_small s k zero = omega arith
bits_small s k (suc n) = omega (arith, bits_step s k n, bit_small (has s k), bits_small s (suc k) n, two_more n)

-- ---- one place

pub bit_is : (s : TokenSet) (k n u : ℕ) → u < n → set_bits s k 1 n / 2 ^ u % 2 ≡ cond (has s (k + u)) 1 0
bit_is s k zero u l = absurd (omega arith)
bit_is s k (suc n) zero l =
    let e : k + 0 ≡ k = omega arith in
    ap (λ x. x / 2 ^ 0 % 2) (bits_step s k n) ∙ (rw e (omega (arith, bit_small (has s k))))
bit_is s k (suc n) (suc u) l =
    let x : ℕ = set_bits s (suc k) 1 n in
    let b : ℕ = cond (has s k) 1 0 in
    let half : (b + 2 * x) / 2 ≡ x = omega (arith, bit_small (has s k)) in
    let down : (b + 2 * x) / 2 ^ suc u ≡ x / 2 ^ u = ap (λ m. (b + 2 * x) / 2 ^ m) (omega arith) ∙ (sym (shr-shr (b + 2 * x) 1 u) ∙ ap (λ y. y / 2 ^ u) half) in
    ap (λ y. y / 2 ^ suc u % 2) (bits_step s k n)
    ∙ (ap (λ y. y % 2) down ∙ (bit_is s (suc k) n u (omega arith) ∙ ap (λ m. cond (has s m) 1 0) (omega arith)))

one_is : (b : Bool) → eqb (cond b 1 0) 1 ≡ b
one_is true = refl
one_is false = refl

-- 32 places from k on: k is 0 for the first word and 32 for the second
pub set_bit : (s : TokenSet) (k n u : ℕ) → u < n → eqb (set_bits s k 1 n / 2 ^ u % 2) 1 ≡ has s (k + u)
set_bit s k n u l = ap (λ m. eqb m 1) (bit_is s k n u l) ∙ one_is (has s (k + u))

-- ---- both words as one number

joined : (s : TokenSet) (k m n : ℕ) → set_bits s k 1 (m + n) ≡ set_bits s k 1 m + 2 ^ m * set_bits s (k + m) 1 n
joined s k zero n =
    let e : 0 + n ≡ n = omega arith in
    let f : k + 0 ≡ k = omega arith in
    rw (e, f) (omega arith)
joined s k (suc m) n =
    let e : suc m + n ≡ suc (m + n) = omega arith in
    let f : k + suc m ≡ suc k + m = omega arith in
    let y : ℕ = set_bits s (suc k + m) 1 n in
    let z : 2 ^ suc m * y ≡ 2 * (2 ^ m * y) = ap (λ x. x * y) (two_more m) ∙ omega arith in
    rw (e, f) (omega (arith, bits_step s k (m + n), bits_step s k m, joined s (suc k) m n, z))

pub both_words : (s : TokenSet) → set_bits s 0 1 32 + 4294967296 * set_bits s 32 1 32 ≡ set_bits s 0 1 64
both_words s = sym (joined s 0 32 32)
