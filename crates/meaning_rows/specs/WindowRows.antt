-- Rows for Window: a window of size 3, and the numbers of its answers.
use Rattle.std.specs.Prelude.{◌≡◌, refl, true, false, [], ◌∷◌, map, pos, negsuc}
use Rattle.meaning.specs.Calls.{more, value, refused, table_refused}
use Rattle.meaning_window.specs.Window.{totals, empty, turned_back, zeros, largest, outcome, opens_window, brings_value, brings_refusal, well_kept}
use Rattle.meaning_window.specs.WindowStatements.{opening, later, entered, entered_by, outside, answer_in}

-- a size that is none
none : opens_window 0 (zeros 10) ≡ outcome turned_back (zeros 10)
unfolding opens_window
none = refl

-- after a 5: 2, 6 and 4 after each other
second : brings_value (pos 2) (pos 3 ∷ pos 1 ∷ pos 1 ∷ pos 5 ∷ pos 1 ∷ pos 5 ∷ zeros 5) ≡ outcome (totals (pos 7) (pos 5)) (pos 3 ∷ pos 2 ∷ pos 2 ∷ pos 7 ∷ pos 2 ∷ pos 5 ∷ pos 2 ∷ pos 0 ∷ pos 0 ∷ pos 1 ∷ pos 0 ∷ [])
unfolding brings_value well_kept
second = refl

third : brings_value (pos 6) (pos 3 ∷ pos 2 ∷ pos 2 ∷ pos 7 ∷ pos 2 ∷ pos 5 ∷ pos 2 ∷ pos 0 ∷ pos 0 ∷ pos 1 ∷ pos 0 ∷ []) ≡ outcome (totals (pos 13) (pos 6)) (pos 3 ∷ pos 3 ∷ pos 0 ∷ pos 13 ∷ pos 1 ∷ pos 5 ∷ pos 2 ∷ pos 6 ∷ pos 2 ∷ pos 0 ∷ pos 0 ∷ [])
unfolding brings_value well_kept
third = refl

fourth : brings_value (pos 4) (pos 3 ∷ pos 3 ∷ pos 0 ∷ pos 13 ∷ pos 1 ∷ pos 5 ∷ pos 2 ∷ pos 6 ∷ pos 2 ∷ pos 0 ∷ pos 0 ∷ []) ≡ outcome (totals (pos 12) (pos 6)) (pos 3 ∷ pos 3 ∷ pos 1 ∷ pos 12 ∷ pos 2 ∷ pos 4 ∷ pos 2 ∷ pos 6 ∷ pos 2 ∷ pos 0 ∷ pos 0 ∷ [])
unfolding brings_value well_kept
fourth = refl

standing : brings_refusal (pos 3 ∷ pos 2 ∷ pos 2 ∷ pos 7 ∷ pos 2 ∷ pos 5 ∷ pos 2 ∷ pos 0 ∷ pos 0 ∷ pos 1 ∷ pos 0 ∷ []) ≡ totals (pos 7) (pos 5)
unfolding brings_refusal well_kept
standing = refl

-- a wrong total, and a next slot that is not the number held
wrong_total : brings_refusal (pos 3 ∷ pos 2 ∷ pos 2 ∷ pos 8 ∷ pos 2 ∷ pos 5 ∷ pos 2 ∷ pos 0 ∷ pos 0 ∷ pos 1 ∷ pos 0 ∷ []) ≡ turned_back
unfolding brings_refusal well_kept
wrong_total = refl

wrong_next : brings_refusal (pos 3 ∷ pos 0 ∷ pos 1 ∷ zeros 8) ≡ turned_back
unfolding brings_refusal well_kept
wrong_next = refl

below_none : largest (negsuc 4) (negsuc 2 ∷ negsuc 8 ∷ []) ≡ negsuc 2
below_none = refl

-- a size of 65, though the buffer is long enough
too_great : opens_window 65 (zeros 135) ≡ outcome turned_back (zeros 135)
unfolding opens_window
too_great = refl

-- the cells past the form stay
past_form : opens_window 1 (pos 7 ∷ pos 7 ∷ pos 7 ∷ pos 7 ∷ pos 7 ∷ pos 7 ∷ pos 7 ∷ pos 8 ∷ []) ≡ outcome empty (pos 1 ∷ pos 0 ∷ pos 0 ∷ pos 0 ∷ pos 0 ∷ pos 0 ∷ pos 0 ∷ pos 8 ∷ [])
unfolding opens_window
past_form = refl

-- 02 (d)'s limits
highest_value : (brings_value (pos 1000000000000) (pos 1 ∷ zeros 6)).answer ≡ totals (pos 1000000000000) (pos 1000000000000)
unfolding brings_value well_kept
highest_value = refl

outside_limits : map (λ v. brings_value v (pos 1 ∷ zeros 6)) (pos 1000000000001 ∷ negsuc 1000000000000 ∷ []) ≡ outcome turned_back (pos 1 ∷ zeros 6) ∷ outcome turned_back (pos 1 ∷ zeros 6) ∷ []
unfolding brings_value well_kept
outside_limits = refl

-- ---- what the statements count

-- a refusal, a value outside the limits and an opening that is turned back enter nothing; an opening begins anew
entering_rows : map (entered_by 11 (entered 3 (pos 9 ∷ [])))
    ((later (value (pos 5) 0) ∷ later (refused 24 0) ∷ later (value (pos 1000000000001) 0) ∷ opening 0 ∷ later (value (pos 2) 7) ∷ [])
    ∷ (opening 2 ∷ later (more 1) ∷ later (table_refused 5 12) ∷ later (value (pos 4) 0) ∷ []) ∷ [])
    ≡ entered 3 (pos 9 ∷ pos 5 ∷ pos 2 ∷ []) ∷ entered 2 (pos 4 ∷ []) ∷ []
entering_rows = refl

outside_rows : map (outside 11) (opening 0 ∷ opening 3 ∷ opening 4 ∷ later (value (pos 1000000000001) 0) ∷ later (value (pos 3) 0) ∷ later (refused 24 0) ∷ later (more 1) ∷ later (table_refused 5 12) ∷ [])
    ≡ true ∷ false ∷ true ∷ true ∷ false ∷ false ∷ false ∷ false ∷ []
outside_rows = refl

-- the first leader cell names slot 1
beside : answer_in (pos 2 ∷ pos 2 ∷ pos 0 ∷ pos 9 ∷ pos 1 ∷ pos 4 ∷ pos 5 ∷ pos 1 ∷ pos 0 ∷ []) ≡ totals (pos 9) (pos 5)
beside = refl
