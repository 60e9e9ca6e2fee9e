-- Rows: some numbers in decimal.
use Rattle.std.specs.Prelude.{◌≡◌, refl, [], ◌∷◌, map}
use Rattle.listing_bytes.specs.Decimal.{decimal, integral}

-- 0, 9, 10, 4294967295
decimals : map decimal (0 ∷ 9 ∷ 10 ∷ 4294967295 ∷ []) ≡ (48 ∷ []) ∷ (57 ∷ []) ∷ (49 ∷ 48 ∷ []) ∷ (52 ∷ 50 ∷ 57 ∷ 52 ∷ 57 ∷ 54 ∷ 55 ∷ 50 ∷ 57 ∷ 53 ∷ []) ∷ []
unfolding decimal
decimals = refl

-- 2147483647, -2147483648, -1
integrals : map integral (2147483647 ∷ 2147483648 ∷ 4294967295 ∷ []) ≡ (50 ∷ 49 ∷ 52 ∷ 55 ∷ 52 ∷ 56 ∷ 51 ∷ 54 ∷ 52 ∷ 55 ∷ []) ∷ (45 ∷ 50 ∷ 49 ∷ 52 ∷ 55 ∷ 52 ∷ 56 ∷ 51 ∷ 54 ∷ 52 ∷ 56 ∷ []) ∷ (45 ∷ 49 ∷ []) ∷ []
unfolding integral
integrals = refl
