-- Decimal digits: the last digit stands behind those of a tenth, a 32-bit number has at most ten.
use Rattle.std.specs.Prelude.{ℕ, zero, suc, ◌+◌, ◌-◌, ◌*◌, ◌/◌, ◌%◌, ◌≤◌, ◌<◌, ◌≡◌, refl, [], ◌∷◌, ◌++◌, Bool, true, false, length, ltb}
use Rattle.std.proofs.Common.{arith, sym, ap, ◌∙◌, append_assoc, lt-ltb, le-ltb, ltb-false}
use Rattle.meaning.specs.Listing.{Text, digits, number, integer}
use Rattle.meaning.specs.Table.{signed}
use Rattle.value.specs.Constants.{signed_low, signed_high}

-- the definitions, shut
unfoldable pub decimal : ℕ → Text
decimal n = number n

unfoldable pub integral : ℕ → Text
integral w = integer (signed w)

-- one turn of `digits`, by its test
abbrev turn : Bool → ℕ → ℕ → Text → Text
turn true f n rest = (48 + n) ∷ rest
turn false f n rest = digits f (n / 10) ((48 + n % 10) ∷ rest)

turned : (b : Bool) (f n : ℕ) (rest : Text) → ltb n 10 ≡ b → digits (suc f) n rest ≡ turn b f n rest
turned true f n rest e = rw (digits, e)
turned false f n rest e = rw (digits, e)

-- what stands behind the digits
digits_behind : (f n : ℕ) (rest : Text) → digits f n rest ≡ digits f n [] ++ rest
digits_behind zero n rest = refl
digits_behind (suc f) n rest = go (ltb n 10) refl (λ r. digits_behind f (n / 10) r)
  where
    go : (b : Bool) → ltb n 10 ≡ b → ((r : Text) → digits f (n / 10) r ≡ digits f (n / 10) [] ++ r) → digits (suc f) n rest ≡ digits (suc f) n [] ++ rest
    go true e h = rw (turned true f n rest e, turned true f n [] e)
    go false e h = rw (turned false f n rest e, turned false f n [] e) (h ((48 + n % 10) ∷ rest) ∙ sym (ap (λ l. l ++ rest) (h ((48 + n % 10) ∷ [])) ∙ append_assoc (digits f (n / 10) []) ((48 + n % 10) ∷ []) rest))

abbrev tens : ℕ → ℕ
tens zero = 1
tens (suc k) = 10 * tens k

-- one more turn changes nothing where the digits are few enough
digits_enough : (f n : ℕ) (rest : Text) → n < tens (suc f) → digits (suc (suc f)) n rest ≡ digits (suc f) n rest
digits_enough zero n rest l =
    let e : ltb n 10 ≡ true = lt-ltb n 10 (omega arith) in
    turned true 1 n rest e ∙ sym (turned true 0 n rest e)
digits_enough (suc f) n rest l = go (ltb n 10) refl (digits_enough f (n / 10) ((48 + n % 10) ∷ rest) (omega arith))
  where
    go : (b : Bool) → ltb n 10 ≡ b → digits (suc (suc f)) (n / 10) ((48 + n % 10) ∷ rest) ≡ digits (suc f) (n / 10) ((48 + n % 10) ∷ rest) → digits (suc (suc (suc f))) n rest ≡ digits (suc (suc f)) n rest
    go true e h = turned true (suc (suc f)) n rest e ∙ sym (turned true (suc f) n rest e)
    go false e h = turned false (suc (suc f)) n rest e ∙ (h ∙ sym (turned false (suc f) n rest e))

digits_few : (f k n : ℕ) (rest : Text) → n < tens (suc k) → length (digits f n rest) ≤ suc k + length rest
digits_few zero k n rest l = omega arith
digits_few (suc f) k n rest l = go k l (ltb n 10) refl (λ j h. digits_few f j (n / 10) ((48 + n % 10) ∷ rest) h)
  where
    go : (k : ℕ) → n < tens (suc k) → (b : Bool) → ltb n 10 ≡ b → ((j : ℕ) → n / 10 < tens (suc j) → length (digits f (n / 10) ((48 + n % 10) ∷ rest)) ≤ suc j + suc (length rest)) → length (digits (suc f) n rest) ≤ suc k + length rest
    go k l true e h = rw (turned true f n rest e) (omega arith)
    go zero l false e h = absurd (omega (arith, ltb-false n 10 e))
    go (suc k) l false e h = rw (turned false f n rest e) (omega (arith, h k (omega arith)))

-- ---- numbers

pub decimal_one : (n : ℕ) → n < 10 → decimal n ≡ (48 + n) ∷ []
unfolding decimal
decimal_one n l = turned true 19 n [] (lt-ltb n 10 l)

pub decimal_more : (n : ℕ) → 10 ≤ n → n < 18446744073709551616 → decimal n ≡ decimal (n / 10) ++ ((48 + n % 10) ∷ [])
unfolding decimal
decimal_more n l m =
    turned false 19 n [] (le-ltb n 10 l)
    ∙ (digits_behind 19 (n / 10) ((48 + n % 10) ∷ [])
    ∙ ap (λ t. t ++ ((48 + n % 10) ∷ [])) (sym (digits_enough 18 (n / 10) [] (omega arith))))

pub decimal_few : (n : ℕ) → n < 4294967296 → length (decimal n) ≤ 10
unfolding decimal
decimal_few n l = omega (arith, digits_few 20 9 n [] (omega arith))

-- ---- signed ones

pub integral_low : (w : ℕ) → w < 2147483648 → integral w ≡ decimal w
unfolding integral decimal
integral_low w l = ap integer (signed_low w l)

pub integral_high : (w : ℕ) → 2147483648 ≤ w → integral w ≡ 45 ∷ decimal (suc (4294967295 - w))
unfolding integral decimal
integral_high w l = ap integer (signed_high w l)
