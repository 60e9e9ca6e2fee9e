-- What the inner functions of the check need and answer.
use Rattle.std.specs.Prelude.{ℕ, ◌+◌, ◌≤◌, ◌<◌, ◌≡◌, Bool, ◌&&◌, List, map, length, take, drop, leb, ℤ}
use Rattle.meaning_window.specs.Window.{small, held_in, next_in, total_in, place_fits, window_limit}
use Rattle.window_found.specs.declared.Numbers.{Numbers}
use Rattle.theory_window.specs.Parts.{count_in, values_fit, rest_zero}

-- slots and leader cells that fit their window's numbers
pub record Window (s area : List ℤ) (at : Numbers) : Type 0 where
  pub few : length s ≤ window_limit
  pub alike : length area ≡ length s
  pub held : at.held ≤ length s
  pub next : at.next < length s
  pub count : at.count ≤ length s

-- of a buffer with this size, all but the size's own tests
abbrev pub parts_kept : List ℤ → ℕ → Bool
parts_kept b n =
    place_fits n (held_in b) (next_in b)
    && (leb (count_in b) n
    && (rest_zero (held_in b) (take n (drop 5 b)) (count_in b) (take n (drop (5 + n) b))
    && values_fit n (held_in b) (next_in b) (take n (drop 5 b)) (map small (take (count_in b) (take n (drop (5 + n) b)))) (total_in b)))
