-- What the listing call hands back: the bytes, how many of them the page has, whether that is all, and the program area.
use Rattle.std.specs.Prelude.{ℕ, ◌≡◌, true, false, List, ◌++◌, length, ltb}
use Rattle.std.proofs.Common.{sym, ◌∙◌}
use Rattle.meaning.specs.PublicCalls.{area_length, written, joined, printed}
use Rattle.meaning.specs.PublicCalls.{made_of}
use Rattle.listing_pages.specs.Pages.{line_room, lead, left, is_none, lead_left, lines_of, lines_printed}
use Rattle.host_numbers.specs.Lent.{flag_of}

pub record Listed : Type 0 where
  pub bytes : List ℕ
  pub long : ℕ
  pub over : ℕ
  pub area : List ℕ

abbrev pub listed : List ℕ → ℕ → ℕ → List ℕ → Listed
listed bytes long over area = record { bytes = bytes; long = long; over = over; area = area }

-- with too short an area, or no room for a line, nothing; else the first page of what is printed for the table
abbrev pub listed_of : List ℕ → List ℕ → List ℕ → Listed
listed_of t area out = elim (ltb (length area) area_length) [
  | true ↦ listed out 0 0 area
  | false ↦ elim (ltb (length out) line_room) [
    | true ↦ listed out 0 0 area
    | false ↦ listed (written (lead (length out) (lines_of t)) out) (length (lead (length out) (lines_of t))) (flag_of (is_none (left (length out) (lines_of t)))) (made_of t area).area
  ]
]

-- the page is the start of what is printed, and the lines left are the rest
pub page_printed : (t : List ℕ) (room : ℕ) → lead room (lines_of t) ++ joined (left room (lines_of t)) ≡ printed t
page_printed t room = sym (lead_left room (lines_of t)) ∙ lines_printed t
