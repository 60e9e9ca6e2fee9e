-- A grammar whose symbols have several attributes, with conditions at several positions: its selectors and its scheme.
use Rattle.std.specs.Prelude.{◌≡◌, refl, [], ◌∷◌, map, pos, negsuc}
use Rattle.meaning.specs.Grammar.{terminal, nonterminal, range, condition_position, production_at, symbol_at, att}
use Rattle.meaning.specs.Scheme.{expect, remove, scheme, entry_tests, select_inherited, select_after}
use Rattle.meaning.specs.Examples.WordsAndTags.{words, occ}
use Rattle.meaning.specs.Examples.SchemeRows.{X, Y, wide1, wide}

-- ---- symbols and positions

symbols : map (symbol_at wide1) (0 ∷ 1 ∷ 2 ∷ 3 ∷ 4 ∷ 5 ∷ []) ≡ X ∷ Y ∷ terminal 0 ∷ X ∷ Y ∷ terminal 0 ∷ []
symbols = refl

-- terminals without tag 6 have no attributes
attributes : map (att wide) (terminal 1 ∷ nonterminal 0 ∷ X ∷ Y ∷ []) ≡ 0 ∷ 1 ∷ 3 ∷ 3 ∷ []
attributes = refl

-- the whole segment is production 128, and so stands for every production that is not listed
whole_segment : map (λ p. (production_at wide p).right) (0 ∷ 128 ∷ 4 ∷ []) ≡ (X ∷ []) ∷ (nonterminal 0 ∷ []) ∷ (nonterminal 0 ∷ []) ∷ []
whole_segment = refl

-- the highest position read
positions : map condition_position wide1.conditions ≡ 4 ∷ 0 ∷ 1 ∷ 3 ∷ 0 ∷ []
positions = refl

-- ---- selectors, register 1 on top

-- at Y, position 4: its own three registers, 3 of X, 2 and 3 of the first Y, then 1, 2, 3 of the left side
at_symbol_4 : map (select_inherited wide wide1 4) (occ 4 1 ∷ occ 3 3 ∷ occ 1 2 ∷ occ 1 3 ∷ occ 0 1 ∷ occ 0 2 ∷ []) ≡ 1 ∷ 4 ∷ 5 ∷ 6 ∷ 7 ∷ 8 ∷ []
at_symbol_4 = refl

-- at X, position 3
at_symbol_3 : map (select_inherited wide wide1 3) (occ 3 1 ∷ occ 3 2 ∷ occ 1 2 ∷ occ 1 3 ∷ occ 0 1 ∷ occ 0 2 ∷ []) ≡ 1 ∷ 2 ∷ 4 ∷ 5 ∷ 6 ∷ 7 ∷ []
at_symbol_3 = refl

-- at the first Y
at_symbol_1 : map (select_inherited wide wide1 1) (occ 1 1 ∷ occ 0 1 ∷ occ 0 2 ∷ []) ≡ 1 ∷ 4 ∷ 5 ∷ []
at_symbol_1 = refl

-- after X, position 3: only what is synthesized is left of it
after_symbol_3 : map (select_after wide wide1 3) (occ 3 3 ∷ occ 1 2 ∷ occ 1 3 ∷ occ 0 1 ∷ occ 0 2 ∷ []) ≡ 1 ∷ 2 ∷ 3 ∷ 4 ∷ 5 ∷ []
after_symbol_3 = refl

-- after the last symbol
after_all_lem : map (select_after wide wide1 4) (occ 4 2 ∷ occ 4 3 ∷ occ 3 3 ∷ occ 1 2 ∷ occ 1 3 ∷ occ 0 1 ∷ occ 0 2 ∷ occ 0 3 ∷ []) ≡ 1 ∷ 2 ∷ 3 ∷ 4 ∷ 5 ∷ 6 ∷ 7 ∷ 8 ∷ []
after_all_lem = refl

-- before the first: the left side's own
after_none : map (select_after wide wide1 0) (occ 0 1 ∷ occ 0 2 ∷ []) ≡ 1 ∷ 2 ∷ []
after_none = refl

-- ---- the scheme

entry : entry_tests wide wide1 ≡ range 2 (pos 0) (pos 5) ∷ range 1 (negsuc 9) (pos 9) ∷ []
entry = refl

-- without attributes only the remove is left
bare : scheme words (record { left = 255; right = terminal 0 ∷ terminal 1 ∷ []; rules = []; conditions = [] }) ≡ expect (terminal 0) ∷ expect (terminal 1) ∷ remove 0 ∷ []
bare = refl
