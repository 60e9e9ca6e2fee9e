-- One turn of the walk from the newest value, and its end.
use Rattle.std.specs.Prelude.{ℕ, ◌-◌, ◌*◌, ◌≤◌, ◌<◌, Bool, true, false, ◌&&◌, not, cond, Option, Some, None, List, length, set, eqb, ℤ, nat_abs, ◌+ℤ◌, ◌-ℤ◌}
use Rattle.std.specs.Int.Signed.{lt_z}
use Rattle.meaning.specs.Value.{in_range}
use Rattle.meaning_window.specs.Window.{value_at, number_at, same_number, window_limit}
use Rattle.value.specs.Overflow.{reach}
use Rattle.theory_window.specs.Leaders.{before}
use Rattle.theory_window.specs.Next.{leaving_of}
use Rattle.window_found.specs.declared.Found.{Found}
use Rattle.window_found.specs.declared.Numbers.{Numbers}
use Rattle.window_found.specs.declared.Walk.{Walk}

-- what a turn needs: a slot, room for a leader where one is not matched yet, and a sum that has room
pub record ReadyForTurn (s : List ℤ) (w : Walk) : Type 0 where
  pub few : length s ≤ window_limit
  pub slot : w.slot < length s
  pub room : w.unmatched ≤ w.from
  pub most : w.from ≤ window_limit
  pub size : nat_abs w.sum ≤ reach * window_limit

-- what the end needs: numbers whose sum has room
pub record Ended (v : ℤ) (w : Walk) : Type 0 where
  pub sum : nat_abs w.sum ≤ reach * window_limit
  pub last : nat_abs w.last ≤ reach
  pub value : nat_abs v ≤ reach

-- the last of u leader cells names the slot
abbrev pub matched_at : List ℤ → ℕ → ℕ → Bool
matched_at area u i = not (eqb u 0) && eqb (number_at area (u - 1)) i

-- a leader x in slot i stays where v comes to slot k
abbrev pub stays_at : (i k : ℕ) → (x v : ℤ) → Bool
stays_at i k x v = not (eqb i k) && lt_z v x

-- the walk after slot i with value x, which does not lead
abbrev pub passing : Walk → ℕ → ℤ → Walk
passing w i x = record { slot = i; last = x; sum = w.sum +ℤ x; top = w.top; unmatched = w.unmatched; from = w.from; best = w.best }

-- which leads until the value comes
abbrev pub ending : Walk → ℕ → ℤ → Walk
ending w i x = record { slot = i; last = x; sum = w.sum +ℤ x; top = x; unmatched = w.unmatched - 1; from = w.from; best = w.best }

-- which leads still
abbrev pub staying : Walk → ℕ → ℤ → Walk
staying w i x = record { slot = i; last = x; sum = w.sum +ℤ x; top = x; unmatched = w.unmatched - 1; from = w.from - 1; best = x }

-- by four tests: the value is in range, leads, is matched, stays
abbrev pub turn_by_value : (inside leads matches stays : Bool) → Walk → ℕ → ℤ → Option Walk
turn_by_value false leads matches stays w i x = None
turn_by_value true false matches stays w i x = Some (passing w i x)
turn_by_value true true false stays w i x = None
turn_by_value true true true false w i x = Some (ending w i x)
turn_by_value true true true true w i x = Some (staying w i x)

-- the lent cells: a leader that stays is put before the others
abbrev pub cells_by : (inside leads matches stays : Bool) → Walk → ℕ → List ℕ → List ℕ
cells_by false leads matches stays w i cells = cells
cells_by true false matches stays w i cells = cells
cells_by true true false stays w i cells = cells
cells_by true true true false w i cells = cells
cells_by true true true true w i cells = set cells (w.from - 1) i

abbrev pub turn_at : (s area : List ℤ) (k : ℕ) (v : ℤ) → Walk → ℕ → Option Walk
turn_at s area k v w i = turn_by_value (in_range (value_at s i)) (lt_z w.top (value_at s i)) (matched_at area w.unmatched i) (stays_at i k (value_at s i) v) w i (value_at s i)

abbrev pub cells_at : (s area : List ℤ) (k : ℕ) (v : ℤ) → Walk → ℕ → List ℕ → List ℕ
cells_at s area k v w i cells = cells_by (in_range (value_at s i)) (lt_z w.top (value_at s i)) (matched_at area w.unmatched i) (stays_at i k (value_at s i) v) w i cells

unfoldable pub turned : (s area : List ℤ) (k : ℕ) (v : ℤ) → Walk → Option Walk
turned s area k v w = turn_at s area k v w (before (length s) w.slot)

unfoldable pub cells_after : (s area : List ℤ) (k : ℕ) (v : ℤ) → Walk → List ℕ → List ℕ
cells_after s area k v w cells = cells_at s area k v w (before (length s) w.slot) cells

-- the end of the walk: each leader cell matched, and the total's cell right
abbrev pub found_by : ℕ → Numbers → ℤ → Walk → Found
found_by n at v w = record { size = n; held = at.held; next = at.next; total = at.total; largest = w.top; sum = at.total -ℤ leaving_of n at.held w.last +ℤ v; top = w.best; from = w.from }

unfoldable pub concluded : ℕ → Numbers → ℤ → Walk → Option Found
concluded n at v w = cond (eqb w.unmatched 0 && same_number at.total w.sum) (Some (found_by n at v w)) None
