-- The calls as a caller makes them, from the table's bytes: the order of 30, table, 33 and 34, the program area, the stretch of a production.
use Rattle.std.specs.Prelude.{ℕ, ◌≡◌, refl, true, false, List, [], ◌∷◌, ◌++◌, map, replicate, length, drop, ltb, pos, negsuc}
use Rattle.meaning.specs.Value.{quotient, floored}
use Rattle.meaning.specs.Calls.{more, value, refused, table_refused, closed_record}
use Rattle.meaning.specs.PublicCalls.{called, feed, finish, area_length, written, opens, performs, stretch_of, turned, programmed, made, made_of}
use Rattle.meaning.specs.Program.{program_of}
use Rattle.meaning.specs.Examples.WordsAndTags.{words}
use Rattle.meaning.specs.Examples.Samples.{small, functions}
use Rattle.meaning.specs.Examples.TableRows.{bytes}
use Rattle.meaning.specs.Examples.CallRows.{m, state, stacks, used}
use Rattle.meaning.specs.Examples.PublicRows.{program, effect}

abbrev Long : List ℕ → Type 0
Long area = ltb (length area) area_length ≡ false

abbrev after : List ℕ → List ℕ
after area = written (7 ∷ 8 ∷ 4 ∷ []) area

written_first : map (written (7 ∷ 8 ∷ 4 ∷ [])) ((5 ∷ 5 ∷ 5 ∷ []) ∷ (5 ∷ 5 ∷ 5 ∷ 5 ∷ 5 ∷ []) ∷ []) ≡ (7 ∷ 8 ∷ 4 ∷ []) ∷ (7 ∷ 8 ∷ 4 ∷ 5 ∷ 5 ∷ []) ∷ []
written_first = refl

-- ---- opening

opens_words : opens program bytes (replicate 16384 5) (used 3 2) ≡ effect (more 0) (state true 0 0 1 1) (stacks (m ∷ m ∷ m ∷ []) (32768 ∷ 0 ∷ [])) (7 ∷ 8 ∷ 4 ∷ replicate 16381 5)
unfolding bytes
opens_words = refl

-- 30: record closed and all zero, nothing written
opens_short : opens program bytes (replicate 16383 5) (used 3 2) ≡ effect (refused 30 0) (state false 0 0 0 0) (used 3 2) (replicate 16383 5)
unfolding bytes
opens_short = refl

-- the following hold of every area that is long enough
opens_refused : (area : List ℕ) → Long area → opens program (1 ∷ 0 ∷ []) area (used 0 0) ≡ effect (table_refused 2 0) closed_record (used 0 0) area
opens_refused area h = rw (h, called)

-- 31 and 32 come after the program is written
opens_without_registers : (area : List ℕ) → Long area → opens program bytes area (used 0 0) ≡ effect (refused 31 0) closed_record (used 0 0) (after area)
unfolding bytes
opens_without_registers area h = rw (h, called)

opens_without_places : (area : List ℕ) → Long area → opens program bytes area (used 1 0) ≡ effect (refused 32 0) closed_record (used 1 0) (after area)
unfolding bytes
opens_without_places area h = rw (h, called)

-- ---- feeding and finishing

feeds : (area : List ℕ) → Long area → performs program bytes area (state true 0 0 1 1) (stacks (m ∷ m ∷ m ∷ m ∷ m ∷ []) (32768 ∷ 0 ∷ 0 ∷ [])) (feed (0 ∷ []) (pos 0 ∷ [])) ≡ effect (more 7) (state true 1 7 5 3) (stacks (m ∷ m ∷ pos 0 ∷ m ∷ pos 0 ∷ []) (32768 ∷ 0 ∷ 257 ∷ [])) (after area)
unfolding bytes
feeds area h = rw (h, called)

finishes : (area : List ℕ) → Long area → performs program bytes area (state true 0 0 1 1) (stacks (m ∷ m ∷ m ∷ []) (32768 ∷ 0 ∷ 0 ∷ [])) finish ≡ effect (value (pos 0) 8) (state false 0 8 1 1) (stacks (pos 0 ∷ m ∷ m ∷ []) (32769 ∷ 0 ∷ 0 ∷ [])) (after area)
unfolding bytes
finishes area h = rw (h, called)

-- an empty feed writes the program
feeds_nothing : (area : List ℕ) → Long area → performs program bytes area (state true 3 4 1 1) (stacks (m ∷ []) (32768 ∷ [])) (feed [] []) ≡ effect (more 4) (state true 3 4 1 1) (stacks (m ∷ []) (32768 ∷ [])) (after area)
unfolding bytes
feeds_nothing area h = rw (h, called)

-- 30 and the table's refusals: everything as brought, also the record, open or closed; before 33 and 34
performs_short : map (performs program [] (5 ∷ []) (state false 1 2 3 4) (used 3 2)) (feed (0 ∷ []) (pos 0 ∷ []) ∷ finish ∷ []) ≡ replicate 2 (effect (refused 30 0) (state false 1 2 3 4) (used 3 2) (5 ∷ []))
performs_short = refl

performs_refused : (area : List ℕ) → Long area → performs program (1 ∷ 0 ∷ []) area (state true 1 2 3 4) (used 3 2) finish ≡ effect (table_refused 2 0) (state true 1 2 3 4) (used 3 2) area
performs_refused area h = rw (h, called)

performs_refused_closed : (area : List ℕ) → Long area → performs program (1 ∷ 0 ∷ []) area (state false 1 2 3 4) (used 3 2) (feed (0 ∷ []) (pos 0 ∷ [])) ≡ effect (table_refused 2 0) (state false 1 2 3 4) (used 3 2) area
performs_refused_closed area h = rw (h, called)

-- 33 and 34: record and stacks as brought, but the program is written; 33 before 34
performs_closed : (area : List ℕ) → Long area → performs program bytes area (state false 1 2 3 4) (used 3 2) (feed (0 ∷ []) (pos 0 ∷ [])) ≡ effect (refused 33 0) (state false 1 2 3 4) (used 3 2) (after area)
unfolding bytes
performs_closed area h = rw (h, called)

performs_unfit : (area : List ℕ) → Long area → performs program bytes area (state true 1 2 3 4) (used 3 2) finish ≡ effect (refused 34 0) (state true 1 2 3 4) (used 3 2) (after area)
unfolding bytes
performs_unfit area h = rw (h, called)

-- ---- each function, run: n of A is -7, its m is 2, and the registers of S lie the first attribute on top

runs_functions : (area : List ℕ) → Long area
    → (performs program functions area (state true 0 0 8 1) (stacks (replicate 12 m) (32768 ∷ 0 ∷ 0 ∷ [])) (feed (0 ∷ []) (pos 0 ∷ []))).stacks
    ≡ stacks (pos 0 ∷ negsuc 506 ∷ negsuc 6 ∷ pos 2 ∷ negsuc 13 ∷ negsuc 8 ∷ negsuc 4 ∷ negsuc 6 ∷ m ∷ m ∷ m ∷ m ∷ []) (32769 ∷ 0 ∷ 0 ∷ [])
unfolding functions quotient floored
runs_functions area h = rw (h, called)

-- ---- the stretch of a production, from its tag 3 to the next or the end; the lent numbers held 9 and 8

stretch_first : stretch_of bytes 0 9 8 ≡ record { part = 3 ∷ 0 ∷ 3 ∷ 0 ∷ 1 ∷ 129 ∷ 4 ∷ 0 ∷ 7 ∷ 1 ∷ 1 ∷ 0 ∷ 0 ∷ 0 ∷ 0 ∷ 0 ∷ 4 ∷ 0 ∷ 5 ∷ 0 ∷ 1 ∷ 1 ∷ 1 ∷ 2 ∷ []; number = 9; offset = 8 }
unfolding bytes
stretch_first = refl

stretch_last : stretch_of bytes 3 9 8 ≡ record { part = 3 ∷ 0 ∷ 2 ∷ 1 ∷ 0 ∷ 4 ∷ 0 ∷ 7 ∷ 0 ∷ 2 ∷ 0 ∷ 0 ∷ 0 ∷ 0 ∷ 0 ∷ []; number = 9; offset = 8 }
unfolding bytes
stretch_last = refl

-- one after the other they are the table without its heads
stretches : drop 17 bytes ≡ (stretch_of bytes 0 0 0).part ++ ((stretch_of bytes 1 0 0).part ++ ((stretch_of bytes 2 0 0).part ++ (stretch_of bytes 3 0 0).part))
unfolding bytes
stretches = refl

-- 14 with offset 0; the table's own refusals before it
no_such_production : map (λ p. stretch_of bytes p 9 8) (4 ∷ 128 ∷ 4294967295 ∷ []) ≡ replicate 3 (record { part = []; number = 14; offset = 0 })
unfolding bytes
no_such_production = refl

refused_stretch : map (λ p. stretch_of (small ++ (3 ∷ [])) p 9 8) (0 ∷ 4 ∷ []) ≡ replicate 2 (record { part = []; number = 2; offset = 57 })
refused_stretch = refl

-- ---- the program alone: 30 before the table; refused, nothing is written; accepted, the program's words and no more

program_refused : (area : List ℕ) → Long area → made_of (1 ∷ 0 ∷ []) area ≡ made (turned 2 0) area
program_refused area h = rw (h, made_of)

program_written : (area : List ℕ) → Long area → made_of bytes area ≡ made (programmed (length (program_of words))) (written (program_of words) area)
unfolding bytes
program_written area h = rw (h, made_of)
