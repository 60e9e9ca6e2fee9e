-- The window of 02 (k): its values from the oldest, their total and the largest by a scan, the cells that keep them, and the calls on its buffer.
use Rattle.std.specs.Prelude.{ℕ, suc, ◌+◌, ◌-◌, ◌*◌, Bool, true, false, ◌&&◌, ◌||◌, cond, List, [], ◌∷◌, ◌++◌, map, length, get_or, take, drop, replicate, eqb, leb, ltb, ℤ, pos, negsuc, ◌+ℤ◌}
use Rattle.std.specs.Int.Signed.{lt_z, le_z}
use Rattle.meaning.specs.Base.{all, cons_if, count_from}
use Rattle.meaning.specs.Value.{in_range}
use Rattle.meaning.specs.Calls.{Answer, more, value, refused, table_refused}

-- ---- values. 02 (k): "After each value give the exact total and the largest value of the window"

abbrev pub total : List ℤ → ℤ
total [] = pos 0
total (v ∷ vs) = v +ℤ total vs

abbrev pub larger : ℤ → ℤ → ℤ
larger a b = cond (lt_z b a) a b

-- the largest of a first value and those after it
abbrev pub largest : ℤ → List ℤ → ℤ
largest v [] = v
largest v (w ∷ ws) = larger v (largest w ws)

-- the last n of some values. "Before the window has filled, it is the values so far"
abbrev pub last_of : ℕ → List ℤ → List ℤ
last_of n vs = drop (length vs - n) vs

-- ---- answers

pub data WindowAnswer : Type 0 where
  -- total and largest
  totals : (sum top : ℤ) → WindowAnswer
  -- no value yet: the total is 0
  empty : WindowAnswer
  -- 42
  turned_back : WindowAnswer

-- 02 (k): "turned back as 42"
abbrev pub window_number : WindowAnswer → ℕ
window_number (totals sum top) = 0
window_number empty = 0
window_number turned_back = 42

-- by a scan of the window's values. "before the first there is no largest"
abbrev pub scan_of : List ℤ → WindowAnswer
scan_of [] = empty
scan_of (v ∷ vs) = totals (total (v ∷ vs)) (largest v vs)

-- ---- slots: the values stand in a ring of as many slots as the window's size

-- the slots, or what stands in them, from slot k round to the one before it
abbrev pub turned : {A : Type 0} → ℕ → List A → List A
turned k xs = drop k xs ++ take k xs

-- of n slots, those of the last h values, from the oldest, where the next value goes to slot k
abbrev pub order : ℕ → ℕ → ℕ → List ℕ
order n h k = drop (n - h) (turned k (count_from 0 n))

abbrev pub zeros : ℕ → List ℤ
zeros n = replicate n (pos 0)

-- the cells of n slots: the values stand in the slots before slot k, the newest just before it; 0 where none yet
abbrev pub slots_of : ℕ → ℕ → List ℤ → List ℤ
slots_of n k vs = turned (n - k) (zeros (n - length vs) ++ vs)

-- the slot after slot k
abbrev pub after : ℕ → ℕ → ℕ
after n k = cond (eqb (suc k) n) 0 (suc k)

abbrev pub value_at : List ℤ → ℕ → ℤ
value_at s i = get_or s i (pos 0)

-- the leaders: of slots from the oldest, those whose value is greater than every later one
abbrev pub leads : (ℕ → ℤ) → List ℕ → List ℕ
leads f [] = []
leads f (i ∷ is) = cons_if (all (λ j. lt_z (f j) (f i)) is) i (leads f is)

abbrev pub leaders_of : ℕ → ℕ → ℕ → List ℤ → List ℕ
leaders_of n h k s = leads (value_at s) (order n h k)

-- ---- the form of a window in its buffer, as docs/WINDOW.md states it

abbrev pub leader_cells : ℕ → List ℕ → List ℤ
leader_cells n ls = map pos ls ++ zeros (n - length ls)

-- size, number held, next slot, total, number of leaders; the values by slot; the leaders' slots from the oldest, 0 in the rest
abbrev pub cells : ℕ → ℕ → ℕ → ℤ → List ℤ → List ℕ → List ℤ
cells n h k t s ls = pos n ∷ pos h ∷ pos k ∷ t ∷ pos (length ls) ∷ (s ++ leader_cells n ls)

-- by size, next slot and values
abbrev pub form_of : ℕ → ℕ → List ℤ → List ℤ
form_of n k vs = cells n (length vs) k (total vs) (slots_of n k vs) (leaders_of n (length vs) k (slots_of n k vs))

abbrev pub form_length : ℕ → ℕ
form_length n = 5 + 2 * n

-- a window's form, and the cells past it as they were
abbrev pub written : ℕ → ℕ → List ℤ → List ℤ → List ℤ
written n k vs b = form_of n k vs ++ drop (form_length n) b

-- ---- reading a buffer

-- 02 (k): a size "outside 1 to 64" is a 42
abbrev pub window_limit : ℕ
window_limit = 64

abbrev pub past_window : ℕ
past_window = suc window_limit

-- a number from 0 to 64, and 65 for anything else
abbrev pub small : ℤ → ℕ
small (pos m) = cond (leb m window_limit) m past_window
small (negsuc m) = past_window

abbrev pub number_at : List ℤ → ℕ → ℕ
number_at b i = small (get_or b i (pos 0))

abbrev pub size_in_value : List ℤ → ℕ
size_in_value b = number_at b 0

abbrev pub held_in : List ℤ → ℕ
held_in b = number_at b 1

abbrev pub next_in : List ℤ → ℕ
next_in b = number_at b 2

abbrev pub total_in : List ℤ → ℤ
total_in b = get_or b 3 (pos 0)

abbrev pub slots_in : List ℤ → List ℤ
slots_in b = take (size_in_value b) (drop 5 b)

-- the window's values from the oldest
abbrev pub values_in : List ℤ → List ℤ
values_in b = drop (size_in_value b - held_in b) (turned (next_in b) (slots_in b))

-- ---- 42

-- "A size outside 1 to 64, or a window buffer shorter than docs/ states for that size"
abbrev pub size_fits : ℕ → ℕ → Bool
size_fits n long = leb 1 n && (leb n window_limit && leb (form_length n) long)

-- before the window has filled the next slot is the number held
abbrev pub place_fits : ℕ → ℕ → ℕ → Bool
place_fits n h k = leb h n && (ltb k n && (eqb h n || eqb k h))

abbrev pub same_number : ℤ → ℤ → Bool
same_number a b = le_z a b && le_z b a

abbrev pub same_cells : List ℤ → List ℤ → Bool
same_cells [] [] = true
same_cells [] (y ∷ ys) = false
same_cells (x ∷ xs) [] = false
same_cells (x ∷ xs) (y ∷ ys) = same_number x y && same_cells xs ys

-- the buffer is the form of the values that it holds, in range each. That these are exactly the buffers which an opening and values after it can leave is
-- a statement of WindowStatements.
unfoldable pub well_kept : List ℤ → Bool
well_kept b =
    size_fits (size_in_value b) (length b)
    && (place_fits (size_in_value b) (held_in b) (next_in b)
    && (all in_range (values_in b)
    && same_cells b (written (size_in_value b) (next_in b) (values_in b) b)))

-- ---- the calls

-- what a call answers, and the buffer that it leaves
pub record Outcome : Type 0 where
  pub answer : WindowAnswer
  pub buffer : List ℤ

abbrev pub outcome : WindowAnswer → List ℤ → Outcome
outcome a b = record { answer = a; buffer = b }

-- 02 (k): "turned back as 42 at opening, and the window buffer is untouched"
unfoldable pub opens_window : ℕ → List ℤ → Outcome
opens_window n b = cond (size_fits n (length b)) (outcome empty (written n 0 [] b)) (outcome turned_back b)

-- the window with one more value: the oldest leaves where it is full
abbrev pub values_with : ℤ → List ℤ → List ℤ
values_with v b = last_of (size_in_value b) (values_in b ++ (v ∷ []))

-- "A later call with a value outside the limits of (d), or on a buffer that by docs/ no opening and values after it can leave, is a 42 too, likewise"
unfoldable pub brings_value : ℤ → List ℤ → Outcome
brings_value v b = cond (in_range v && well_kept b) (outcome (scan_of (values_with v b)) (written (size_in_value b) (after (size_in_value b) (next_in b)) (values_with v b) b)) (outcome turned_back b)

-- "a refusal changes nothing and gets both as they stand"
unfoldable pub brings_refusal : List ℤ → WindowAnswer
brings_refusal b = cond (well_kept b) (scan_of (values_in b)) turned_back

-- "Only accepted segments enter: a later call brings a finish's answer"
abbrev pub brings_answer : Answer → List ℤ → Outcome
brings_answer (more moves) b = outcome (brings_refusal b) b
brings_answer (value v moves) b = brings_value v b
brings_answer (refused number tokens) b = outcome (brings_refusal b) b
brings_answer (table_refused number offset) b = outcome (brings_refusal b) b
