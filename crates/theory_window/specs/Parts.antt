-- Whether a buffer is well kept, by tests of its parts: what the code looks at.
use Rattle.std.specs.Prelude.{ℕ, ◌+◌, ◌-◌, Bool, true, false, ◌&&◌, cond, List, [], ◌∷◌, map, length, take, drop, eqb, leb, ℤ, pos}
use Rattle.meaning.specs.Base.{all}
use Rattle.meaning.specs.Value.{in_range, mark}
use Rattle.meaning_window.specs.Window.{WindowAnswer, totals, empty, total, turned, value_at, leaders_of, small, number_at, size_in_value, held_in, next_in, total_in, slots_in, size_fits, place_fits, same_number}

abbrev pub count_in : List ℤ → ℕ
count_in b = number_at b 4

abbrev pub leader_area_in : List ℤ → List ℤ
leader_area_in b = take (size_in_value b) (drop (5 + size_in_value b) b)

abbrev pub is_zero : ℤ → Bool
is_zero v = same_number v (pos 0)

abbrev pub eq_numbers : List ℕ → List ℕ → Bool
eq_numbers [] [] = true
eq_numbers [] (j ∷ js) = false
eq_numbers (i ∷ is) [] = false
eq_numbers (i ∷ is) (j ∷ js) = eqb i j && eq_numbers is js

-- the values that n slots hold, from the oldest
abbrev pub values_of : (n h k : ℕ) → List ℤ → List ℤ
values_of n h k s = drop (n - h) (turned k s)

-- the values held are in range, and these are their leaders and their total
abbrev pub values_fit : (n h k : ℕ) → List ℤ → List ℕ → ℤ → Bool
values_fit n h k s ls t = all in_range (values_of n h k s) && (eq_numbers ls (leaders_of n h k s) && same_number t (total (values_of n h k s)))

-- the value at the last leader matched, where u of c leader cells are not matched yet; the mark before the first
abbrev pub top_at : (s area : List ℤ) (c u : ℕ) → ℤ
top_at s area c u = cond (eqb u c) mark (value_at s (number_at area u))

-- the answer by number held, total and largest
abbrev pub answer_of : ℕ → (t top : ℤ) → WindowAnswer
answer_of h t top = cond (eqb h 0) empty (totals t top)

-- 0 in the slots that hold none yet and in the leader cells past the leaders
abbrev pub rest_zero : ℕ → List ℤ → ℕ → List ℤ → Bool
rest_zero h s c area = all is_zero (drop h s) && all is_zero (drop c area)

-- of a buffer of this length: size, number held, next slot, total, number of leaders, the cells of the slots and those of the leaders
abbrev pub kept_as : (long n h k : ℕ) → ℤ → ℕ → (s area : List ℤ) → Bool
kept_as long n h k t c s area = size_fits n long && (place_fits n h k && (leb c n && (rest_zero h s c area && values_fit n h k s (map small (take c area)) t)))

-- the same answer as well_kept: Brought
unfoldable pub kept_parts : List ℤ → Bool
kept_parts b = kept_as (length b) (size_in_value b) (held_in b) (next_in b) (total_in b) (count_in b) (slots_in b) (leader_area_in b)
