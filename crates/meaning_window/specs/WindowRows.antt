-- Rows for Window: a window of size 3, and the numbers of its answers.
use Rattle.std.specs.Prelude.{◌≡◌, refl, [], ◌∷◌, map, pos, negsuc}
use Rattle.meaning.specs.Calls.{more, value, refused, table_refused}
use Rattle.meaning_window.specs.Window.{totals, empty, turned_back, window_number, zeros, last_of, outcome, opens_window, brings_value, brings_refusal, brings_answer, well_kept}

opened : opens_window 3 (zeros 12) ≡ outcome empty (pos 3 ∷ zeros 11)
unfolding opens_window
opened = refl

-- one cell too few
short : opens_window 3 (zeros 10) ≡ outcome turned_back (zeros 10)
unfolding opens_window
short = refl

-- a value is brought
first : brings_value (pos 5) (pos 3 ∷ zeros 11) ≡ outcome (totals (pos 5) (pos 5)) (pos 3 ∷ pos 1 ∷ pos 1 ∷ pos 5 ∷ pos 1 ∷ pos 5 ∷ pos 0 ∷ pos 0 ∷ pos 0 ∷ pos 0 ∷ pos 0 ∷ pos 0 ∷ [])
unfolding brings_value well_kept
first = refl

-- the largest leaves, and an equal value takes the lead
sixth : brings_value (pos 4) (pos 3 ∷ pos 3 ∷ pos 2 ∷ pos 11 ∷ pos 3 ∷ pos 4 ∷ pos 1 ∷ pos 6 ∷ pos 2 ∷ pos 0 ∷ pos 1 ∷ []) ≡ outcome (totals (pos 9) (pos 4)) (pos 3 ∷ pos 3 ∷ pos 0 ∷ pos 9 ∷ pos 1 ∷ pos 4 ∷ pos 1 ∷ pos 4 ∷ pos 2 ∷ pos 0 ∷ pos 0 ∷ [])
unfolding brings_value well_kept
sixth = refl

last_two : map (λ n. last_of n (pos 5 ∷ pos 2 ∷ pos 6 ∷ [])) (1 ∷ 2 ∷ 3 ∷ 4 ∷ []) ≡ (pos 6 ∷ []) ∷ (pos 2 ∷ pos 6 ∷ []) ∷ (pos 5 ∷ pos 2 ∷ pos 6 ∷ []) ∷ (pos 5 ∷ pos 2 ∷ pos 6 ∷ []) ∷ []
last_two = refl

-- a finish's answer: a value enters, whatever its moves; anything else changes nothing, and does not enter as 0
answers : map (λ a. brings_answer a (pos 1 ∷ zeros 6)) (value (negsuc 4) 9 ∷ refused 24 3 ∷ table_refused 5 12 ∷ more 7 ∷ [])
    ≡ outcome (totals (negsuc 4) (negsuc 4)) (pos 1 ∷ pos 1 ∷ pos 0 ∷ negsuc 4 ∷ pos 1 ∷ negsuc 4 ∷ pos 0 ∷ [])
    ∷ outcome empty (pos 1 ∷ zeros 6) ∷ outcome empty (pos 1 ∷ zeros 6) ∷ outcome empty (pos 1 ∷ zeros 6) ∷ []
unfolding brings_value brings_refusal well_kept
answers = refl

numbers : map window_number (totals (pos 3) (pos 2) ∷ empty ∷ turned_back ∷ []) ≡ 0 ∷ 0 ∷ 42 ∷ []
numbers = refl
