-- Bounds as words that order as they do: the bound plus 2,147,483,648. A bound has four bytes; a value may have more.
use Rattle.std.specs.Prelude.{◌≡◌, ℕ, ◌+◌, ◌-◌, ◌%◌, ◌<◌, Bool, true, false, ℤ, pos, negsuc, nat_lt}
use Rattle.std.proofs.Math.Decide.{dec_lt}
use Rattle.std.proofs.Common.{arith, sym, ap, ◌∙◌, lt-ltb, le-ltb}
use Rattle.meaning.specs.Table.{signed}

-- a bound as a word
unfoldable pub biased : ℤ → ℕ
biased (pos n) = n + 2147483648
biased (negsuc n) = 2147483647 - n

-- a four-byte constant, with its highest bit turned over
pub biased_signed : (n : ℕ) → n < 4294967296 → biased (signed n) ≡ (n + 2147483648) % 4294967296
unfolding biased
biased_signed n l = go (dec_lt n 2147483648)
  where
    at : (b : Bool) → nat_lt n 2147483648 ≡ b → signed n ≡ elim b [ true ↦ pos n | false ↦ negsuc (4294967295 - n) ]
    at b e = rw (sym e)

    go : Dec (n < 2147483648) → biased (signed n) ≡ (n + 2147483648) % 4294967296
    go (yes h) = ap biased (at true (lt-ltb n 2147483648 h)) ∙ omega arith
    go (no h) = ap biased (at false (le-ltb n 2147483648 (omega arith))) ∙ omega arith
