-- 01's listing, byte for byte.
use Prim.Native.Char.{code}
use Prim.Native.String.{String, len, char_at}
use Rattle.std.specs.Prelude.{◌≡◌, refl, map}
use Rattle.meaning.specs.Base.{count_from}
use Rattle.meaning.specs.Listing.{Text}
use Rattle.meaning.specs.PublicCalls.{printed}
use Rattle.meaning.specs.Examples.TableRows.{bytes}

-- the bytes of a text without special characters
abbrev pub codes : String → Text
codes s = map (λ i. code (char_at s i)) (count_from 0 (len s))

-- ---- 01's listing, whole

-- 01's 17 lines
pub listing_of_words : printed bytes ≡ codes "0 A1 2\n0 E1 1 const 0\n0 E0 2 copy 1\n0 R 1\n1 A2 2\n1 E2 1 copy 3\n1 E0 3 addc 1 1\n1 R 2\n2 P0 range 1 0 2\n2 A2 2\n2 E2 1 addc 3 1\n2 A4 2\n2 E4 1 copy 4\n2 E0 4 sum 2 1\n2 R 3\n3 E0 2 const 0\n3 R 1\n"
unfolding bytes
listing_of_words = refl
