-- A page: the first of the lines still to come, as many as there is room for, and where the listing goes on.
use Rattle.std.specs.Prelude.{ℕ, ◌-◌, ◌≤◌, ◌<◌, ◌≡◌, refl, Bool, true, false, List, [], ◌∷◌, ◌++◌, length, ltb}
use Rattle.std.proofs.Common.{sym, ap, ◌∙◌, append_assoc, append-nil}
use Rattle.meaning.specs.Listing.{Text, refusal_line, listing}
use Rattle.meaning.specs.Table.{grammar_of}
use Rattle.meaning.specs.PublicCalls.{Checked, usable, unusable, check, written, joined, printed}
use Rattle.listing_text.specs.declared.Cursor.{Cursor}
use Rattle.listing_text.specs.Cursors.{lines_left}
use Rattle.listing_pages.specs.declared.Page.{Page}

-- ---- lines by pages

-- a line has at most so many bytes; with less room none is begun
abbrev pub line_room : ℕ
line_room = 64

abbrev pub lead_by : Bool → Text → Text
lead_by true t = []
lead_by false t = t

abbrev pub left_by : Bool → List Text → List Text → List Text
left_by true here behind = here
left_by false here behind = behind

-- the lines that come into so many bytes
abbrev pub lead : ℕ → List Text → Text
lead room [] = []
lead room (l ∷ ls) = lead_by (ltb room line_room) (l ++ lead (room - length l) ls)

-- the lines behind them
abbrev pub left : ℕ → List Text → List Text
left room [] = []
left room (l ∷ ls) = left_by (ltb room line_room) (l ∷ ls) (left (room - length l) ls)

abbrev pub is_none : List Text → Bool
is_none [] = true
is_none (l ∷ ls) = false

two_lines : (lead 65 ((7 ∷ []) ∷ (8 ∷ 9 ∷ []) ∷ []) ≡ 7 ∷ 8 ∷ 9 ∷ []) × (left 65 ((7 ∷ []) ∷ (8 ∷ 9 ∷ []) ∷ []) ≡ [])
two_lines = (refl, refl)

one_line : (lead 64 ((7 ∷ []) ∷ (8 ∷ 9 ∷ []) ∷ []) ≡ 7 ∷ []) × (left 64 ((7 ∷ []) ∷ (8 ∷ 9 ∷ []) ∷ []) ≡ (8 ∷ 9 ∷ []) ∷ [])
one_line = (refl, refl)

no_line : (lead 63 ((7 ∷ []) ∷ []) ≡ []) × (left 63 ((7 ∷ []) ∷ []) ≡ (7 ∷ []) ∷ [])
no_line = (refl, refl)

-- nothing is lost between the pages
pub lead_left : (room : ℕ) (ls : List Text) → joined ls ≡ lead room ls ++ joined (left room ls)
lead_left room [] = refl
lead_left room (l ∷ ls) = go (lead_left (room - length l) ls) (ltb room line_room)
  where
    go : joined ls ≡ lead (room - length l) ls ++ joined (left (room - length l) ls) → (b : Bool) → l ++ joined ls ≡ lead_by b (l ++ lead (room - length l) ls) ++ joined (left_by b (l ∷ ls) (left (room - length l) ls))
    go e true = refl
    go e false = ap (λ t. l ++ t) e ∙ sym (append_assoc l (lead (room - length l) ls) (joined (left (room - length l) ls)))

-- ---- the lines printed for a table

abbrev pub lines_by : Checked → List Text
lines_by (usable s) = listing (grammar_of s)
lines_by (unusable n o) = refusal_line n o ∷ []

abbrev pub lines_of : List ℕ → List Text
lines_of t = lines_by (check t)

pub lines_printed : (t : List ℕ) → joined (lines_of t) ≡ printed t
lines_printed t = go (check t)
  where
    go : (k : Checked) → joined (lines_by k) ≡ elim k [ unusable n o ↦ refusal_line n o | usable s ↦ joined (listing (grammar_of s)) ]
    go (usable s) = refl
    go (unusable n o) = append-nil (refusal_line n o)

-- ---- a page

-- the lines behind a page
abbrev pub rest_by : Bool → List Text → List Text
rest_by true ls = []
rest_by false ls = ls

abbrev pub rest_of : List ℕ → Page → List Text
rest_of ws r = rest_by r.over (lines_left ws r.next)

-- the page has as many of the lines as there is room for, and the rest comes behind it
pub record Shows (lines : List Text) (ws before after : List ℕ) (r : Page) : Type 0 where
  pub memory : after ≡ written (lead (length before) lines) before
  pub size : r.length ≡ length (lead (length before) lines)
  pub short : r.length ≤ length before
  pub is_over : r.over ≡ is_none (left (length before) lines)
  pub rest : rest_of ws r ≡ left (length before) lines

-- where a page is not the last one it has a line
abbrev pub OnwardBy : Bool → List ℕ → Cursor → Page → Type 0
OnwardBy true ws c r = Unit {0}
OnwardBy false ws c r = length (lines_left ws r.next) < length (lines_left ws c)

abbrev pub Onward : List ℕ → Cursor → Page → Type 0
Onward ws c r = OnwardBy r.over ws c r
