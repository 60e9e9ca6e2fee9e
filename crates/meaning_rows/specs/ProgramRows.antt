-- The program of 01's grammar of words and tags, section by section.
use Rattle.std.specs.Prelude.{◌+◌, ◌*◌, ◌≡◌, refl, [], ◌∷◌, ◌++◌, length, take, drop, replicate}
use Rattle.meaning.specs.Examples.WordsAndTags.{words}
use Rattle.meaning.specs.Program.{program_of}

-- expect S, nothing left, records at 137, 3 terminals, 1 register, result 1, 4 productions, no terminal with a value
segment_row : take 9 (program_of words) ≡ 3 ∷ 6 ∷ 137 ∷ 3 ∷ 1 ∷ 1 ∷ 4 ∷ 0 ∷ 0 ∷ []
segment_row = refl

-- L: on word production 1, whose scheme begins at 229, on open production 2, which has an entry test, on close and at the end production 3, whose scheme begins at 262
directory_row : take 3 (drop 73 (program_of words)) ++ drop 136 (take 137 (program_of words)) ≡ (2 + 256 * 229) ∷ 3 ∷ (4 + 256 * 262) ∷ (4 + 256 * 262) ∷ []
directory_row = refl

-- S to L: left side 0, no other production of it, word, open and the end, body at 217, no entry test, scheme at 218, one symbol
record0 : take 8 (drop 137 (program_of words)) ≡ 0 ∷ 0 ∷ 3 ∷ 2147483648 ∷ 217 ∷ 0 ∷ 218 ∷ 1 ∷ []
record0 = refl

-- L to open L close L: the next production of L is 3, only open calls for it, one entry test
record2 : take 8 (drop 153 (program_of words)) ≡ 1 ∷ 4 ∷ 2 ∷ 0 ∷ 239 ∷ 1 ∷ 246 ∷ 4 ∷ []
record2 = refl

-- L to open L close L: left side 1, and what its four places wait at: open with no register passed, L (one register, one inherited), close with one passed, L; 0 for the others
waits2 : take 12 (drop 193 (program_of words)) ≡ (1 + 2097152 + 536870912) ∷ (1 + 8192 + 131072 + 2097152 * 129 + 536870912) ∷ (1 + 64 + 2097152 * 2 + 536870912) ∷ (1 + 64 + 8192 + 131072 + 2097152 * 129 + 536870912) ∷ replicate 8 0
waits2 = refl

-- L to nothing: no place of it waits
waits3 : take 12 (drop 205 (program_of words)) ≡ replicate 12 0
waits3 = refl

-- S to L: its expect stands at 222; add 2, evaluate 1 const 0, expect L, evaluate 2 copy 1, remove 1
body0 : take 10 (drop 217 (program_of words)) ≡ 222 ∷ 16 ∷ 9 ∷ 1 ∷ 0 ∷ 11 ∷ 9 ∷ 2178 ∷ 0 ∷ 13 ∷ []
body0 = refl

-- L to open L close L: its four expects, its entry test range 1 0 2
body2 : take 7 (drop 239 (program_of words)) ≡ 246 ∷ 251 ∷ 252 ∷ 257 ∷ 1 ∷ 0 ∷ 2 ∷ []
body2 = refl

-- L to word L: evaluate 3 addc 1 1
body1 : take 3 (drop 235 (program_of words)) ≡ 9 ∷ 2947 ∷ 1 ∷ []
body1 = refl

size : length (program_of words) ≡ 266
size = refl
