-- The constants of rules and conditions: their sign and their limits.
use Rattle.std.specs.Prelude.{◌≡◌, refl, true, false, [], ◌∷◌, map, pos, negsuc}
use Rattle.meaning.specs.Rules.{four_bytes}
use Rattle.meaning.specs.Table.{signed}

-- four-byte two's complement
signs : map signed (0 ∷ 1 ∷ 2147483647 ∷ 2147483648 ∷ 4294967294 ∷ 4294967295 ∷ []) ≡ pos 0 ∷ pos 1 ∷ pos 2147483647 ∷ negsuc 2147483647 ∷ negsuc 1 ∷ negsuc 0 ∷ []
signs = refl

-- constants and bounds keep to four bytes, though values go further
ends_of_constants : map four_bytes (negsuc 2147483648 ∷ negsuc 2147483647 ∷ pos 2147483647 ∷ pos 2147483648 ∷ []) ≡ false ∷ true ∷ true ∷ false ∷ []
ends_of_constants = refl
