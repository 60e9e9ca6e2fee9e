-- What the check answers.
use Rattle.std.specs.Prelude.{ℕ, ◌+◌, ◌-◌, ◌≡◌, refl, Bool, true, false, cond, Option, Some, None, List, map, length, take, drop, ℤ, ◌+ℤ◌, ◌-ℤ◌}
use Rattle.std.proofs.Common.{arith, sym, ◌∙◌}
use Rattle.meaning_window.specs.Window.{small, value_at, size_in_value, held_in, next_in, total_in, well_kept, past_window}
use Rattle.theory_window.specs.Parts.{count_in, top_at, values_fit}
use Rattle.theory_window.specs.Next.{leaving_of, leaders_with, top_with}
use Rattle.window_found.specs.Parts.{parts_kept}
use Rattle.window_found.specs.declared.Found.{Found}
use Rattle.window_found.specs.declared.Numbers.{Numbers}

abbrev pub checked : Bool → Found → Option Found
checked b f = cond b (Some f) None

-- the lent cells end with these numbers
pub record EndsWith (ls cells : List ℕ) : Type 0 where
  pub long : length cells ≡ past_window
  pub tail : drop (past_window - length ls) cells ≡ ls

pub ends_same : {ls ks cells : List ℕ} → ls ≡ ks → EndsWith ls cells → EndsWith ks cells
ends_same e w = rw (← e) w

-- ---- slots and leader cells

-- the slots that the first c leader cells name
abbrev pub claimed : List ℤ → ℕ → List ℕ
claimed area c = map small (take c area)

abbrev pub found_of : (s area : List ℤ) → Numbers → ℤ → Found
found_of s area at v = record {
  size = length s;
  held = at.held;
  next = at.next;
  total = at.total;
  largest = top_at s area at.count 0;
  sum = at.total -ℤ leaving_of (length s) at.held (value_at s at.next) +ℤ v;
  top = top_with s at.next v (claimed area at.count);
  from = past_window - length (leaders_with s at.next v (claimed area at.count));
}

abbrev pub values_kept : (s area : List ℤ) → Numbers → Bool
values_kept s area at = values_fit (length s) at.held at.next s (claimed area at.count) at.total

pub record Walked (s area : List ℤ) (at : Numbers) (v : ℤ) (r : Option Found) (cells : List ℕ) : Type 0 where
  pub answer : r ≡ checked (values_kept s area at) (found_of s area at v)
  pub leaders : values_kept s area at ≡ true → EndsWith (leaders_with s at.next v (claimed area at.count)) cells

-- ---- a buffer of size n

abbrev pub slots_part : List ℤ → ℕ → List ℤ
slots_part b n = take n (drop 5 b)

abbrev pub area_part : List ℤ → ℕ → List ℤ
area_part b n = take n (drop (5 + n) b)

-- the leaders with the value
abbrev pub new_leaders : List ℤ → ℕ → ℤ → List ℕ
new_leaders b n v = leaders_with (slots_part b n) (next_in b) v (claimed (area_part b n) (count_in b))

abbrev pub found_parts : List ℤ → ℕ → ℤ → Found
found_parts b n v = record {
  size = n;
  held = held_in b;
  next = next_in b;
  total = total_in b;
  largest = top_at (slots_part b n) (area_part b n) (count_in b) 0;
  sum = total_in b -ℤ value_at (slots_part b n) (next_in b) +ℤ v;
  top = top_with (slots_part b n) (next_in b) v (claimed (area_part b n) (count_in b));
  from = past_window - length (new_leaders b n v);
}

pub record CheckedParts (b : List ℤ) (n : ℕ) (v : ℤ) (r : Option Found) (cells : List ℕ) : Type 0 where
  pub answer : r ≡ checked (parts_kept b n) (found_parts b n v)
  pub leaders : parts_kept b n ≡ true → EndsWith (new_leaders b n v) cells

-- ---- any buffer

abbrev pub found_in : List ℤ → ℤ → Found
found_in b v = found_parts b (size_in_value b) v

pub record CheckedIn (b : List ℤ) (v : ℤ) (r : Option Found) (cells : List ℕ) : Type 0 where
  pub answer : r ≡ checked (well_kept b) (found_in b v)
  pub leaders : well_kept b ≡ true → EndsWith (new_leaders b (size_in_value b) v) cells

-- what is known where the check answers that a buffer is well kept
pub record KnownWhereKept (b : List ℤ) (v : ℤ) (f : Found) (cells : List ℕ) : Type 0 where
  pub kept : well_kept b ≡ true
  pub found : f ≡ found_in b v
  pub leaders : EndsWith (new_leaders b (size_in_value b) v) cells

pub checked_kept : (b : List ℤ) (v : ℤ) {r : Option Found} {cells : List ℕ} {f : Found} → CheckedIn b v r cells → r ≡ Some f → KnownWhereKept b v f cells
checked_kept b v {cells = cells} {f = f} w d = by (well_kept b) refl (sym d ∙ w.answer)
  where
    by : (x : Bool) → well_kept b ≡ x → Some f ≡ checked x (found_in b v) → KnownWhereKept b v f cells
    by true e q = record { kept = e; found = cc; leaders = w.leaders e }
    by false e q = absurd (let z : ◌≡◌ {A = ℕ} 0 1 = cc in omega arith)

pub checked_wrong : (b : List ℤ) (v : ℤ) {r : Option Found} {cells : List ℕ} → CheckedIn b v r cells → r ≡ None → well_kept b ≡ false
checked_wrong b v w d = by (well_kept b) (sym d ∙ w.answer)
  where
    by : (x : Bool) → None ≡ checked x (found_in b v) → x ≡ false
    by true q = absurd (let z : ◌≡◌ {A = ℕ} 0 1 = cc in omega arith)
    by false q = refl
