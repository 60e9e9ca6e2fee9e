-- Rows of ranked suggestions: the order, and the call on the grammar of words and tags.
use Rattle.std.specs.Prelude.{ℕ, ◌≡◌, refl, true, false, List, [], ◌∷◌, map, length, replicate, ltb, pos, negsuc}
use Rattle.meaning.specs.Grammar.{Grammar}
use Rattle.meaning.specs.Calls.{value, refused}
use Rattle.meaning.specs.PublicCalls.{area_length, written}
use Rattle.meaning.specs.Examples.WordsAndTags.{words}
use Rattle.meaning.specs.Examples.TableRows.{bytes}
use Rattle.meaning.specs.Examples.CallRows.{m, state, stacks, used, called}
use Rattle.meaning_ranking.specs.Ranking.{rank_entry, before, place, ranked_onto, ranking, cells_of, total_of, valued_of}
use Rattle.meaning_ranking.specs.RankCall.{evaluated, evaluations, in_order_value, ranked, unranked, rank_effect, rank_of}

-- ---- the order

-- numbers 0 to 4: 5, refused 21, -3, 5, refused 24
row_ranking : ranking (rank_entry (pos 0) (pos 5) (pos 0) ∷ rank_entry (pos 1) (pos 0) (pos 21) ∷ rank_entry (pos 2) (negsuc 2) (pos 0) ∷ rank_entry (pos 3) (pos 5) (pos 0) ∷ rank_entry (pos 4) (pos 0) (pos 24) ∷ [])
    ≡ rank_entry (pos 0) (pos 5) (pos 0) ∷ rank_entry (pos 3) (pos 5) (pos 0) ∷ rank_entry (pos 2) (negsuc 2) (pos 0) ∷ rank_entry (pos 1) (pos 0) (pos 21) ∷ rank_entry (pos 4) (pos 0) (pos 24) ∷ []
unfolding ranked_onto place before
row_ranking = refl

row_cells : cells_of (rank_entry (pos 3) (negsuc 2) (pos 0) ∷ rank_entry (pos 1) (pos 0) (pos 21) ∷ []) ≡ pos 3 ∷ negsuc 2 ∷ pos 0 ∷ pos 1 ∷ pos 0 ∷ pos 21 ∷ []
unfolding cells_of
row_cells = refl

-- a refused one counts for nothing, whatever its value
row_total : total_of (rank_entry (pos 0) (pos 5) (pos 0) ∷ rank_entry (pos 1) (pos 9) (pos 21) ∷ rank_entry (pos 2) (negsuc 2) (pos 0) ∷ []) ≡ pos 2
unfolding total_of
row_total = refl

row_valued : valued_of (rank_entry (pos 0) (pos 5) (pos 0) ∷ rank_entry (pos 1) (pos 9) (pos 21) ∷ rank_entry (pos 2) (negsuc 2) (pos 0) ∷ []) ≡ 2
unfolding valued_of
row_valued = refl

row_equal : before (rank_entry (pos 3) (pos 5) (pos 0)) (rank_entry (pos 0) (pos 5) (pos 0)) ≡ false
unfolding before
row_equal = refl

row_refused : before (rank_entry (pos 1) (pos 0) (pos 21)) (rank_entry (pos 2) (negsuc 2) (pos 0)) ≡ false
unfolding before
row_refused = refl

row_refused_last : before (rank_entry (pos 2) (negsuc 2) (pos 0)) (rank_entry (pos 1) (pos 0) (pos 21)) ≡ true
unfolding before
row_refused_last = refl

row_refused_by_number : before (rank_entry (pos 2) (pos 0) (pos 20)) (rank_entry (pos 1) (pos 0) (pos 24)) ≡ false
unfolding before
row_refused_by_number = refl

-- ---- one candidate, on stacks that held something else

-- no tokens: 0 after 8 moves
evaluated_none : evaluated words (used 4 4) [] [] ≡ called (value (pos 0) 8) (state false 0 8 1 1) (stacks (pos 0 ∷ m ∷ m ∷ m ∷ []) (32769 ∷ 0 ∷ 0 ∷ 0 ∷ []))
evaluated_none = refl

-- a feed that is refused is not finished: word close, where the start symbol is left before the close is refused
evaluated_fed : evaluated words (used 8 5) (0 ∷ 2 ∷ []) (pos 0 ∷ pos 0 ∷ []) ≡ called (refused 21 1) (state false 1 14 1 1) (stacks (pos 1 ∷ replicate 7 m) (32769 ∷ replicate 4 0))
evaluated_fed = refl

-- one open: 24
evaluated_over : (evaluated words (used 8 5) (1 ∷ []) (pos 0 ∷ [])).answer ≡ refused 24 1
evaluated_over = refl

-- 31 and 32 of an opening: nothing is written
evaluated_31 : evaluated words (used 0 5) (0 ∷ []) (pos 0 ∷ []) ≡ called (refused 31 0) (state false 0 0 0 0) (used 0 5)
evaluated_31 = refl

evaluated_32 : evaluated words (used 8 0) (0 ∷ []) (pos 0 ∷ []) ≡ called (refused 32 0) (state false 0 0 0 0) (used 8 0)
evaluated_32 = refl

-- 2 registers: 31 of a move
evaluated_31_later : (evaluated words (used 2 5) [] []).answer ≡ refused 31 0
evaluated_31_later = refl

-- ---- all of them

-- word; close; none; word: 1, 21, 0, 1
evaluations_words : (evaluations words 0 (1 ∷ 1 ∷ 0 ∷ 1 ∷ []) (0 ∷ 2 ∷ 0 ∷ []) (pos 0 ∷ pos 0 ∷ pos 0 ∷ []) (used 8 5)).entries ≡ rank_entry (pos 0) (pos 1) (pos 0) ∷ rank_entry (pos 1) (pos 0) (pos 21) ∷ rank_entry (pos 2) (pos 0) (pos 0) ∷ rank_entry (pos 3) (pos 1) (pos 0) ∷ []
evaluations_words = refl

-- what stands afterwards is what the last one left; with none the stacks are as brought
evaluations_last : (evaluations words 0 (1 ∷ 1 ∷ []) (0 ∷ 1 ∷ []) (pos 0 ∷ pos 0 ∷ []) (used 8 5)).stacks ≡ (evaluated words (used 8 5) (1 ∷ []) (pos 0 ∷ [])).stacks
evaluations_last = refl

evaluations_none : (evaluations words 0 [] [] [] (used 8 5)).stacks ≡ used 8 5
evaluations_none = refl

-- ---- 37

-- at most 512, an exact sum, room for each
in_order : in_order_value (2 ∷ 0 ∷ 1 ∷ []) (0 ∷ 0 ∷ 0 ∷ []) (replicate 9 (pos 7)) ≡ true
in_order = refl

too_many : map (λ n. in_order_value (replicate n 0) [] (replicate 1539 (pos 7))) (512 ∷ 513 ∷ []) ≡ true ∷ false ∷ []
too_many = refl

-- a sum that is right modulo 2^32 alone
wrong_sum : map (λ ns. in_order_value ns (0 ∷ 0 ∷ []) (replicate 9 (pos 7))) ((1 ∷ 1 ∷ []) ∷ (1 ∷ []) ∷ (2 ∷ 1 ∷ []) ∷ (4294967295 ∷ 3 ∷ []) ∷ []) ≡ true ∷ false ∷ false ∷ false ∷ []
wrong_sum = refl

-- entries are the cells by 3, rounded down
too_short : map (λ n. in_order_value (0 ∷ 0 ∷ []) [] (replicate n (pos 7))) (5 ∷ 6 ∷ 8 ∷ []) ≡ false ∷ true ∷ true ∷ []
too_short = refl

-- ---- the call

-- a program of two words and the number of productions
abbrev program : Grammar → List ℕ
program g = 7 ∷ 8 ∷ length g.productions ∷ []

abbrev Long : List ℕ → Type 0
Long area = ltb (length area) area_length ≡ false

-- 02 (b) on words and tags: word; close; word word. The fourth entry of the list is not touched
ranks_words : (area : List ℕ) → Long area → rank_of program bytes area (1 ∷ 1 ∷ 2 ∷ []) (0 ∷ 2 ∷ 0 ∷ 0 ∷ []) (replicate 4 (pos 0)) (replicate 12 (pos 5)) (used 8 6)
    ≡ rank_effect (ranked 2 (pos 3) 3) (pos 2 ∷ pos 2 ∷ pos 0 ∷ pos 0 ∷ pos 1 ∷ pos 0 ∷ pos 1 ∷ pos 0 ∷ pos 21 ∷ pos 5 ∷ pos 5 ∷ pos 5 ∷ []) (stacks (pos 2 ∷ replicate 7 m) (32769 ∷ replicate 5 0)) (written (7 ∷ 8 ∷ 4 ∷ []) area)
unfolding bytes ranked_onto place before cells_of total_of valued_of
ranks_words area h = rw (h, rank_of)

-- none
ranks_none : (area : List ℕ) → Long area → rank_of program bytes area [] [] [] (pos 5 ∷ []) (used 3 2) ≡ rank_effect (ranked 0 (pos 0) 0) (pos 5 ∷ []) (used 3 2) (written (7 ∷ 8 ∷ 4 ∷ []) area)
unfolding bytes ranked_onto cells_of total_of valued_of
ranks_none area h = rw (h, rank_of)

-- 37 before 30 and the table, with nothing written
ranks_37 : rank_of program [] (5 ∷ []) (1 ∷ []) [] (pos 0 ∷ []) (pos 5 ∷ []) (used 3 2) ≡ rank_effect (unranked 37 0) (pos 5 ∷ []) (used 3 2) (5 ∷ [])
ranks_37 = refl

-- 30 before the table
ranks_30 : rank_of program [] (5 ∷ []) [] [] (pos 0 ∷ []) (pos 5 ∷ []) (used 3 2) ≡ rank_effect (unranked 30 0) (pos 5 ∷ []) (used 3 2) (5 ∷ [])
ranks_30 = refl

-- the table before 38
ranks_refused : (area : List ℕ) → Long area → rank_of program (1 ∷ 0 ∷ []) area [] [] (pos 0 ∷ []) (pos 5 ∷ []) (used 3 2) ≡ rank_effect (unranked 2 0) (pos 5 ∷ []) (used 3 2) area
ranks_refused area h = rw (h, rank_of)

-- 38: the program is written, the list is not
ranks_38 : (area : List ℕ) → Long area → rank_of program bytes area (1 ∷ []) (0 ∷ []) [] (replicate 3 (pos 5)) (used 3 2) ≡ rank_effect (unranked 38 0) (replicate 3 (pos 5)) (used 3 2) (written (7 ∷ 8 ∷ 4 ∷ []) area)
unfolding bytes
ranks_38 area h = rw (h, rank_of)

-- refused openings are the candidates' refusals, and the stacks stay as brought
ranks_31 : (area : List ℕ) → Long area → rank_of program bytes area (1 ∷ 0 ∷ []) (0 ∷ []) (pos 0 ∷ []) (replicate 6 (pos 5)) (used 0 2)
    ≡ rank_effect (ranked 0 (pos 0) 2) (pos 0 ∷ pos 0 ∷ pos 31 ∷ pos 1 ∷ pos 0 ∷ pos 31 ∷ []) (used 0 2) (written (7 ∷ 8 ∷ 4 ∷ []) area)
unfolding bytes ranked_onto place before cells_of total_of valued_of
ranks_31 area h = rw (h, rank_of)
