-- Four bytes as one number, and the constant that it stands for.
use Rattle.std.specs.Prelude.{◌≡◌, ℕ, ◌+◌, ◌-◌, ◌*◌, ◌%◌, ◌<◌, ◌≤◌, true, List, length, pos, negsuc, ◌-ℤ◌}
use Rattle.std.proofs.Math.Decide.{dec_lt}
use Rattle.std.proofs.Common.{arith, ap, lt-ltb, le-ltb, le-leb}
use Rattle.std.proofs.Math.ListN.{get_or-eq_default}
use Rattle.std.specs.Int.Signed.{mag}
use Rattle.meaning.specs.Table.{byte, signed}
use Rattle.meaning.specs.Value.{in_range, lowest, highest}

abbrev pub word_at : List ℕ → ℕ → ℕ
word_at b i = ((byte b i * 256 + byte b (i + 1)) * 256 + byte b (i + 2)) * 256 + byte b (i + 3)

pub word_past : (b : List ℕ) (i : ℕ) → length b ≤ i → word_at b i ≡ 0
word_past b i h = rw (get_or-eq_default b 0 {n = i} h, get_or-eq_default b 0 {n = i + 1} (omega arith), get_or-eq_default b 0 {n = i + 2} (omega arith), get_or-eq_default b 0 {n = i + 3} (omega arith))

pub signed_low : (n : ℕ) → n < 2147483648 → signed n ≡ pos n
signed_low n l = rw (lt-ltb n 2147483648 l, signed)

pub signed_high : (n : ℕ) → 2147483648 ≤ n → signed n ≡ negsuc (4294967295 - n)
signed_high n l = rw (le-ltb n 2147483648 l, signed)

-- 2 ^ 31 added within 32 bits, and taken away
pub unbiased : (n : ℕ) → n < 4294967296 → pos ((n + 2147483648) % 4294967296) -ℤ pos 2147483648 ≡ signed n
unbiased n h = by_case (dec_lt n 2147483648)
  where
    not_below : (n < 2147483648 → ⊥) → 2147483648 ≤ n
    not_below f = omega arith

    by_case : Dec (n < 2147483648) → pos ((n + 2147483648) % 4294967296) -ℤ pos 2147483648 ≡ signed n
    by_case (yes l) = let e : (n + 2147483648) % 4294967296 ≡ n + 2147483648 = omega arith in rw (e, le-ltb (n + 2147483648) 2147483648 (omega arith), signed_low n l) (ap pos (omega arith))
    by_case (no l) = let e : (n + 2147483648) % 4294967296 ≡ n - 2147483648 = omega (arith, not_below l) in rw (e, lt-ltb (n - 2147483648) 2147483648 (omega arith), signed_high n (not_below l)) (ap negsuc (omega (arith, not_below l)))

-- every constant is a value
pub signed_in : (n : ℕ) → n < 4294967296 → in_range (signed n) ≡ true
signed_in n k = by_case (dec_lt n 2147483648)
  where
    not_below : (n < 2147483648 → ⊥) → 2147483648 ≤ n
    not_below f = omega arith

    by_case : Dec (n < 2147483648) → in_range (signed n) ≡ true
    by_case (yes l) = rw (signed_low n l, le-leb n (mag highest) (omega arith))
    by_case (no l) = rw (signed_high n (not_below l), le-leb (4294967295 - n) (mag lowest) (omega (arith, not_below l)))
