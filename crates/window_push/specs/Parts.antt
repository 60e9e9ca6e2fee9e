-- What the functions for one more value need and answer.
use Rattle.std.specs.Prelude.{ℕ, ◌+◌, ◌-◌, ◌*◌, ◌≤◌, ◌<◌, List, length, set, ℤ, pos}
use Rattle.meaning_window.specs.Window.{window_limit, past_window}
use Rattle.window_found.specs.Checks.{KnownWhereKept}
use Rattle.window_found.specs.declared.Found.{Found}

-- a window's numbers and the value in its slot written
abbrev pub stored : List ℤ → ℕ → ℕ → ℤ → ℕ → ℕ → ℤ → List ℤ
stored b h k t c slot v = set (set (set (set (set b 1 (pos h)) 2 (pos k)) 3 t) 4 (pos c)) (5 + slot) v

-- a well kept buffer, what the check has found in it, and a value to bring
pub record ValueBrought (b : List ℤ) (f : Found) (v : ℤ) (cells : List ℕ) : Type 0 where
  pub known : KnownWhereKept b v f cells
  pub most : f.size ≤ window_limit
  pub long : 5 + 2 * f.size ≤ length b
  pub place : f.held ≤ f.size
  pub slot : f.next < f.size
  pub from : f.from ≤ window_limit
  pub few : past_window - f.from ≤ f.size
