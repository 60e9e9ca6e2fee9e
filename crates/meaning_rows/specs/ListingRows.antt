-- The listing, byte for byte: 01's own, a refusal's line, each function and each kind of condition, numbers of several digits and negative ones.
use Rattle.std.specs.Prelude.{◌≡◌, refl, [], ◌∷◌, ◌++◌, map, pos, negsuc}
use Rattle.meaning.specs.Listing.{number, integer, refusal_line, production_lines}
use Rattle.meaning.specs.PublicCalls.{joined, printed}
use Rattle.meaning.specs.Examples.Samples.{functions, small}
use Rattle.meaning.specs.Examples.SchemeRows.{wide, wide1}
use Rattle.meaning.specs.Examples.WordsAndTags.{words}
use Rattle.meaning.specs.Examples.ListingRows.{codes}

codes_are_bytes : codes "0 A1 -2\n" ≡ 48 ∷ 32 ∷ 65 ∷ 49 ∷ 32 ∷ 45 ∷ 50 ∷ 10 ∷ []
codes_are_bytes = refl

-- ---- numbers

numbers : map number (0 ∷ 9 ∷ 10 ∷ 99 ∷ 100 ∷ 1024 ∷ 32768 ∷ 4294967295 ∷ []) ≡ codes "0" ∷ codes "9" ∷ codes "10" ∷ codes "99" ∷ codes "100" ∷ codes "1024" ∷ codes "32768" ∷ codes "4294967295" ∷ []
numbers = refl

integers : map integer (pos 0 ∷ pos 2147483647 ∷ negsuc 0 ∷ negsuc 9 ∷ negsuc 2147483647 ∷ []) ≡ codes "0" ∷ codes "2147483647" ∷ codes "-1" ∷ codes "-10" ∷ codes "-2147483648" ∷ []
integers = refl

-- ---- a refusal is one line

refusal : refusal_line 13 32767 ≡ codes "refused 13 32767\n"
refusal = refl

refused_table : printed [] ≡ codes "refused 3 0\n"
refused_table = refl

refused_field : printed (small ++ (3 ∷ [])) ≡ codes "refused 2 57\n"
refused_field = refl

-- ---- each function, both kinds of condition; those of a position stand after its A and E lines

listing_of_functions : printed functions ≡
    codes "0 A1 3\n0 E1 1 const -7\n0 P1 range 1 -2147483648 2147483647\n0 P1 atmost 1 2\n"
    ++ (codes "0 E0 3 copy 1\n0 E0 4 sum 1 2\n0 E0 5 diff 1 2\n0 E0 6 prod 1 2\n0 E0 7 max 1 2\n0 E0 8 min 1 2\n0 E0 9 addc 1 -500\n0 E0 10 quot 1 1000000\n0 R 2\n"
    ++ codes "1 E0 2 copy 1\n1 E0 3 const 2\n1 R 1\n")
unfolding functions
listing_of_functions = refl

-- ---- positions in order, table order inside one; two digits for the production

listing_of_wide : joined (production_lines wide 12 wide1) ≡ codes "12 P0 range 2 0 5\n12 P0 range 1 -10 9\n12 A1 3\n12 E1 1 sum 4 5\n12 P1 atmost 3 1\n12 A3 3\n12 E3 1 copy 4\n12 E3 2 copy 6\n12 P3 range 1 -1 9\n12 A4 3\n12 E4 1 diff 4 6\n12 P4 atmost 2 5\n12 E0 8 sum 1 5\n12 R 7\n"
listing_of_wide = refl

-- R also with 0 registers, and nothing else where there are no attributes
bare : joined (production_lines words 7 (record { left = 255; right = []; rules = []; conditions = [] })) ≡ codes "7 R 0\n"
bare = refl
