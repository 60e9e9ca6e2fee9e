-- What is printed for a table: a refusal's line, or the listing.
use Prim.Native.Nat.{ℕ}
use mathlib.Core.Path.{◌≡◌, sym, ap, ◌∙◌, subst}
use mathlib.Core.List.{List, [], ◌∷◌}
use Rattle.meaning.specs.Listing.{Text, refusal_line}
use Rattle.meaning.specs.Table.{grammar_of}
use Rattle.meaning.specs.PublicCalls.{unusable, check}
use Rattle.prepare.specs.Making.{ProgramStands}
use Rattle.listing_text.specs.declared.Cursor.{Cursor}
use Rattle.listing_text.specs.Cursors.{lines_left}
use Rattle.listing_text.specs.LineOut.{BeforeAll}
use Rattle.listing_pages.specs.declared.Page.{Page}
use Rattle.listing_pages.specs.Pages.{lines_by, lines_of, Shows}

pub shows_as : {lines lines' : List Text} {ws before after : List ℕ} {r : Page} → lines ≡ lines' → Shows lines ws before after r → Shows lines' ws before after r
shows_as {ws = ws} {before = before} {after = after} {r = r} e p = subst (λ ls. Shows ls ws before after r) e p

pub lines_refused : (t : List ℕ) (n o : ℕ) → check t ≡ unusable n o → refusal_line n o ∷ [] ≡ lines_of t
lines_refused t n o e = sym (ap lines_by e)

pub lines_listing : {t area ws : List ℕ} {size : ℕ} (c : Cursor) → ProgramStands t area ws size → BeforeAll ws c → lines_left ws c ≡ lines_of t
lines_listing c s b = b (grammar_of s.state) s.formed s.begins ∙ sym (ap lines_by s.is_usable)
