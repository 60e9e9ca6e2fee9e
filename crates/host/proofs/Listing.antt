-- What the listing call hands back, by its cases.
use Prim.Native.Nat.{ℕ, ◌≤◌, ◌<◌}
use mathlib.Core.Path.{◌≡◌, sym, ap, ◌∙◌}
use mathlib.Core.Bool.{Bool, true, false}
use mathlib.Core.List.{List}
use borrow.Author.Tests.{lt-ltb, le-ltb}
use lib.ListN.{length}
use lib.Dec.{ltb}
use Rattle.meaning.specs.PublicCalls.{area_length, written}
use Rattle.meaning.specs.PublicCalls.{made_of}
use Rattle.listing_pages.specs.declared.Page.{Page}
use Rattle.listing_pages.specs.Pages.{line_room, lead, left, is_none, lines_of, Shows}
use Rattle.host_numbers.specs.Lent.{flag_of}
use Rattle.host.specs.Listed.{Listed, listed, listed_of}

module _ (t area out : List ℕ) where
  abbrev first : Listed
  first = listed (written (lead (length out) (lines_of t)) out) (length (lead (length out) (lines_of t))) (flag_of (is_none (left (length out) (lines_of t)))) (made_of t area).area

  abbrev by_room : Bool → Listed
  by_room b = elim b [ true ↦ listed out 0 0 area | false ↦ first ]

  abbrev by_area : Bool → Listed
  by_area b = elim b [ true ↦ listed out 0 0 area | false ↦ by_room (ltb (length out) line_room) ]

  pub listed_short : length area < area_length → listed out 0 0 area ≡ listed_of t area out
  listed_short l = sym (ap by_area (lt-ltb (length area) area_length l))

  module _ (long : area_length ≤ length area) where
    pub listed_narrow : length out < line_room → listed out 0 0 area ≡ listed_of t area out
    listed_narrow l = sym (ap by_area (le-ltb (length area) area_length long) ∙ ap by_room (lt-ltb (length out) line_room l))

    pub listed_page : line_room ≤ length out → (area' out' : List ℕ) (r : Page) (b : Bool) → r.over ≡ b → Shows (lines_of t) area' out out' r → area' ≡ (made_of t area).area
        → listed out' r.length (flag_of b) area' ≡ listed_of t area out
    listed_page room area' out' r b o s e =
        ap (λ z. listed z r.length (flag_of b) area') s.memory
        ∙ (ap (λ z. listed (written (lead (length out) (lines_of t)) out) z (flag_of b) area') s.size
        ∙ (ap (λ z. listed (written (lead (length out) (lines_of t)) out) (length (lead (length out) (lines_of t))) (flag_of z) area') (sym o ∙ s.is_over)
        ∙ (ap (listed (written (lead (length out) (lines_of t)) out) (length (lead (length out) (lines_of t))) (flag_of (is_none (left (length out) (lines_of t))))) e
        ∙ sym (ap by_area (le-ltb (length area) area_length long) ∙ ap by_room (le-ltb (length out) line_room room)))))
