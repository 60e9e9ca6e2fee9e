-- The promises of 02 (k), as statements: each is a type, and its proof, in theory_window, is a value of it.
use Rattle.std.specs.Prelude.{ℕ, ◌+◌, ◌≡◌, ◌↔◌, ◌⊎◌, Bool, true, false, not, cond, List, [], ◌∷◌, ◌++◌, length, get_or, drop, T, eqb, ℤ, pos}
use Rattle.meaning.specs.Base.{all}
use Rattle.meaning.specs.Value.{in_range}
use Rattle.meaning.specs.Calls.{Answer, more, value, refused, table_refused}
use Rattle.meaning_window.specs.Window.{last_of, WindowAnswer, totals, empty, turned_back, scan_of, form_length, number_at, size_in_value, held_in, total_in, values_in, size_fits, well_kept, Outcome, opens_window, brings_answer}

-- a call on a window buffer
pub data WindowCall : Type 0 where
  opening : ℕ → WindowCall
  later : Answer → WindowCall

abbrev pub calls_window : WindowCall → List ℤ → Outcome
calls_window (opening n) b = opens_window n b
calls_window (later a) b = brings_answer a b

-- the buffer after some calls
abbrev pub after_calls : List WindowCall → List ℤ → List ℤ
after_calls [] b = b
after_calls (c ∷ cs) b = after_calls cs (calls_window c b).buffer

-- ==== "total and largest", after any calls

-- what has been brought: the size of the last opening, and the values that entered since
pub record Entered : Type 0 where
  pub size : ℕ
  pub values : List ℤ

abbrev pub entered : ℕ → List ℤ → Entered
entered n vs = record { size = n; values = vs }

-- one more call on a buffer of this length: "Only accepted segments enter"
abbrev pub entering : ℕ → Entered → WindowCall → Entered
entering long e (opening n) = cond (size_fits n long) (entered n []) e
entering long e (later (more moves)) = e
entering long e (later (value v moves)) = cond (in_range v) (entered e.size (e.values ++ (v ∷ []))) e
entering long e (later (refused number tokens)) = e
entering long e (later (table_refused number offset)) = e

abbrev pub entered_by : ℕ → Entered → List WindowCall → Entered
entered_by long e [] = e
entered_by long e (c ∷ cs) = entered_by long (entering long e c) cs

-- is the call in itself a 42 on a buffer of this length?
abbrev pub outside : ℕ → WindowCall → Bool
outside long (opening n) = not (size_fits n long)
outside long (later (more moves)) = false
outside long (later (value v moves)) = not (in_range v)
outside long (later (refused number tokens)) = false
outside long (later (table_refused number offset)) = false

-- by a scan of the last values that entered
abbrev pub scanned : Entered → WindowAnswer
scanned e = scan_of (last_of e.size e.values)

-- after an opening and any list of calls, refusals, 42s and openings among them, the next call is answered by a scan of the last `size` values
abbrev pub ScanAlways : Type 0
ScanAlways =
    (n : ℕ) (b : List ℤ) → T (size_fits n (length b)) → (cs : List WindowCall) (c : WindowCall)
    → (calls_window c (after_calls cs (opens_window n b).buffer)).answer
    ≡ cond (outside (length b) c) turned_back (scanned (entering (length b) (entered_by (length b) (entered n []) cs) c))

-- ==== "a buffer that by docs/ no opening and values after it can leave"

-- the buffer after some values
abbrev pub after_values : List ℤ → List ℤ → List ℤ
after_values [] b = b
after_values (v ∷ vs) b = after_values vs (brings_answer (value v 0) b).buffer

-- an opening and values after it leave the buffer so
pub record Reached (b : List ℤ) : Type 0 where
  pub size : ℕ
  pub start : List ℤ
  pub values : List ℤ
  pub fits : T (size_fits size (length start))
  pub ranged : T (all in_range values)
  pub leaves : b ≡ after_values values (opens_window size start).buffer

abbrev pub ReachedExactly : Type 0
ReachedExactly = (b : List ℤ) → T (well_kept b) ↔ Reached b

-- whatever the calls after an opening
abbrev pub KeptAlways : Type 0
KeptAlways = (n : ℕ) (b : List ℤ) → T (size_fits n (length b)) → (cs : List WindowCall) → T (well_kept (after_calls cs (opens_window n b).buffer))

-- 42 exactly where it is due
abbrev pub TurnedBackExactly : Type 0
TurnedBackExactly =
    (a : Answer) (b : List ℤ)
    → ((brings_answer a b).answer ≡ turned_back) ↔ (T (outside (length b) (later a)) ⊎ (Reached b → ⊥))

-- ==== "the window buffer is untouched", "a refusal changes nothing"

abbrev pub is_value : Answer → Bool
is_value (more moves) = false
is_value (value v moves) = true
is_value (refused number tokens) = false
is_value (table_refused number offset) = false

abbrev pub Untouched : Type 0
Untouched =
    ((c : WindowCall) (b : List ℤ) → (calls_window c b).answer ≡ turned_back → (calls_window c b).buffer ≡ b)
    × ((a : Answer) (b : List ℤ) → is_value a ≡ false → (brings_answer a b).buffer ≡ b)

-- the cells past the form of the window that stands after a call
abbrev pub PastUntouched : Type 0
PastUntouched =
    (c : WindowCall) (b : List ℤ)
    → drop (form_length (size_in_value (calls_window c b).buffer)) (calls_window c b).buffer ≡ drop (form_length (size_in_value (calls_window c b).buffer)) b

-- ==== "the largest answered from what is kept beside the values and equal to a scan of them all"

-- the total's cell, and the value in the slot that the first leader cell names
abbrev pub answer_in : List ℤ → WindowAnswer
answer_in b = cond (eqb (held_in b) 0) empty (totals (total_in b) (get_or b (5 + number_at b (5 + size_in_value b)) (pos 0)))

abbrev pub KeptBeside : Type 0
KeptBeside = (b : List ℤ) → T (well_kept b) → answer_in b ≡ scan_of (values_in b)
