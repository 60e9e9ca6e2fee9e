-- Lines written one behind the other into a page.
use Prim.Native.Nat.{ℕ, ◌+◌, ◌-◌, ◌≤◌, ◌<◌}
use native.Mathlib.Omega.{arith}
use mathlib.Core.Path.{◌≡◌, refl, sym, ap, ap₂, ◌∙◌, subst}
use mathlib.Core.Bool.{Bool, true, false}
use mathlib.Core.List.{List, [], ◌∷◌, ◌++◌, append_assoc, append-nil}
use borrow.Author.Tests.{lt-ltb, le-ltb}
use lib.Dec.{ltb}
use lib.ListN.{length, take, drop, length-append, length-drop, drop_of_length-le}
use lib.Seq.{take_all, take_at, drop_at, drop-drop}
use Rattle.std.proofs.Common.{Option, Some, None, not}
use Rattle.std.specs.Option.{is_some}
use borrow.Rule.Slice.PartMut.{put_mid, put_same}
use Rattle.meaning.specs.Listing.{Text}
use Rattle.meaning.specs.PublicCalls.{written, joined}
use Rattle.listing_text.specs.declared.Cursor.{Cursor}
use Rattle.listing_text.specs.declared.Line.{Line}
use Rattle.listing_text.specs.Cursors.{lines_left}
use Rattle.listing_text.specs.LineOut.{FirstLineOrOver, first_of_lines, none_of_lines}
use Rattle.listing_pages.specs.declared.Page.{Page}
use Rattle.listing_pages.specs.Pages.{line_room, lead_by, left_by, lead, left, is_none, rest_by, Shows, OnwardBy, Onward}

joined_append : (xs ys : List Text) → joined (xs ++ ys) ≡ joined xs ++ joined ys
joined_append [] ys = refl
joined_append (x ∷ xs) ys = ap (λ t. x ++ t) (joined_append xs ys) ∙ sym (append_assoc x (joined xs) (joined ys))

-- the lines from c₀ up to c stand in the first bytes, the others are to come; there was room for each of them
pub record Filled (ws before : List ℕ) (c₀ : Cursor) (out : List ℕ) (filled : ℕ) (c : Cursor) : Type 0 where
  pub done : List Text
  pub lines : lines_left ws c₀ ≡ done ++ lines_left ws c
  pub memory : out ≡ written (joined done) before
  pub size : filled ≡ length (joined done)
  pub leads : lead (length before) (lines_left ws c₀) ≡ joined done ++ lead (length before - filled) (lines_left ws c)
  pub lefts : left (length before) (lines_left ws c₀) ≡ left (length before - filled) (lines_left ws c)

pub filled_start : (ws before : List ℕ) (c : Cursor) → Filled ws before c before 0 c
filled_start ws before c =
    let whole : length before ≡ length before - 0 = omega arith in
    record { done = []; lines = refl; memory = refl; size = refl; leads = ap (λ k. lead k (lines_left ws c)) whole; lefts = ap (λ k. left k (lines_left ws c)) whole }

module _ (room : ℕ) (l : Text) (ls : List Text) (enough : line_room ≤ room) where
  abbrev begun : ltb room line_room ≡ false
  begun = le-ltb room line_room enough

  lead_on : lead room (l ∷ ls) ≡ l ++ lead (room - length l) ls
  lead_on = ap (λ b. lead_by b (l ++ lead (room - length l) ls)) begun

  left_on : left room (l ∷ ls) ≡ left (room - length l) ls
  left_on = ap (λ b. left_by b (l ∷ ls) (left (room - length l) ls)) begun

lead_full : (room : ℕ) (ls : List Text) → room < line_room → lead room ls ≡ []
lead_full room [] l = refl
lead_full room (x ∷ ls) l = ap (λ b. lead_by b (x ++ lead (room - length x) ls)) (lt-ltb room line_room l)

left_full : (room : ℕ) (ls : List Text) → room < line_room → left room ls ≡ ls
left_full room [] l = refl
left_full room (x ∷ ls) l = ap (λ b. left_by b (x ∷ ls) (left (room - length x) ls)) (lt-ltb room line_room l)

rest_none : (b : Bool) (ls : List Text) → b ≡ is_none ls → rest_by b ls ≡ ls
rest_none b [] e = ap (λ k. rest_by k []) e
rest_none b (l ∷ ls) e = ap (λ k. rest_by k (l ∷ ls)) e

module _ {ws before : List ℕ} {c₀ : Cursor} {out : List ℕ} {filled : ℕ} {c : Cursor} (f : Filled ws before c₀ out filled c) where
  shown : take filled out ≡ joined f.done
  shown = ap (take filled) f.memory ∙ take_at (joined f.done) (drop (length (joined f.done)) before) filled (sym f.size)

  behind : drop filled out ≡ drop (length (joined f.done)) before
  behind = ap (drop filled) f.memory ∙ drop_at (joined f.done) (drop (length (joined f.done)) before) filled (sym f.size)

  pub filled_turn : (l : Text) (c' : Cursor) (n : ℕ) → filled + line_room ≤ length before → lines_left ws c ≡ l ∷ lines_left ws c' → n ≡ length l
      → Filled ws before c₀ (take filled out ++ written l (drop filled out)) (filled + n) c'
  filled_turn l c' n room e d =
      let j = joined f.done in
      let r = length before - filled in
      let ls = lines_left ws c' in
      let text : joined (f.done ++ (l ∷ [])) ≡ j ++ l = joined_append f.done (l ∷ []) ∙ ap (λ t. j ++ t) (append-nil l) in
      let place : drop (length l) (drop (length j) before) ≡ drop (length (j ++ l)) before = drop-drop (length l) (length j) before ∙ ap (λ k. drop k before) (sym (length-append j l)) in
      let enough : line_room ≤ r = omega (arith, room) in
      let less : r - length l ≡ length before - (filled + n) = omega (arith, d) in
      record {
        done = f.done ++ (l ∷ []);
        lines = f.lines ∙ (ap (λ ls. f.done ++ ls) e ∙ sym (append_assoc f.done (l ∷ []) (lines_left ws c')));
        memory = ap₂ (λ s t. s ++ written l t) shown behind ∙ (sym (append_assoc j l (drop (length l) (drop (length j) before))) ∙ (ap (λ t. j ++ l ++ t) place ∙ ap (λ t. written t before) (sym text)));
        size = omega (arith, f.size, ap length text, length-append j l);
        leads = f.leads ∙ (ap (λ k. j ++ lead r k) e ∙ (ap (λ t. j ++ t) (lead_on r l ls enough) ∙ (sym (append_assoc j l (lead (r - length l) ls)) ∙ ap₂ (λ t k. t ++ lead k ls) (sym text) less)));
        lefts = f.lefts ∙ (ap (left r) e ∙ (left_on r l ls enough ∙ ap (λ k. left k ls) less));
      }

  -- ---- the page

  -- none of the lines still to come has a place on it
  page_is : lead (length before - filled) (lines_left ws c) ≡ [] → joined f.done ≡ lead (length before) (lines_left ws c₀)
  page_is e = sym (f.leads ∙ (ap (λ t. joined f.done ++ t) e ∙ append-nil (joined f.done)))

  pub filled_over : filled ≤ length before → lines_left ws c ≡ [] → Shows (lines_left ws c₀) ws before out (record { length = filled; over = true; next = c })
  filled_over l e =
      let page = page_is (ap (lead (length before - filled)) e) in
      let none : left (length before) (lines_left ws c₀) ≡ [] = f.lefts ∙ ap (left (length before - filled)) e in
      record { memory = f.memory ∙ ap (λ t. written t before) page; size = f.size ∙ ap length page; short = l; is_over = sym (ap is_none none); rest = sym none }

  pub filled_full : filled ≤ length before → length before < filled + line_room → (b : Bool) → b ≡ is_none (lines_left ws c) → Shows (lines_left ws c₀) ws before out (record { length = filled; over = b; next = c })
  filled_full l m b o =
      let small : length before - filled < line_room = omega (arith, l, m) in
      let page = page_is (lead_full (length before - filled) (lines_left ws c) small) in
      let same : left (length before) (lines_left ws c₀) ≡ lines_left ws c = f.lefts ∙ left_full (length before - filled) (lines_left ws c) small in
      record { memory = f.memory ∙ ap (λ t. written t before) page; size = f.size ∙ ap length page; short = l; is_over = o ∙ sym (ap is_none same); rest = rest_none b (lines_left ws c) o ∙ sym same }

  filled_onward : 0 < filled → length (lines_left ws c) < length (lines_left ws c₀)
  filled_onward l = go f.done f.lines f.size
    where
      go : (done : List Text) → lines_left ws c₀ ≡ done ++ lines_left ws c → filled ≡ length (joined done) → length (lines_left ws c) < length (lines_left ws c₀)
      go [] e d = absurd (omega arith)
      go (x ∷ xs) e d = omega (arith, ap length e, length-append xs (lines_left ws c))

  pub filled_page : 0 < filled → (b : Bool) → Onward ws c₀ (record { length = filled; over = b; next = c })
  filled_page l true = tt
  filled_page l false = filled_onward l

  -- ---- a line asked for

  abbrev room : ℕ
  room = length out - filled

  all_room : take room (drop filled out) ≡ drop filled out
  all_room = take_all room (drop filled out) (omega (arith, length-drop filled out))

  none_behind : drop room (drop filled out) ≡ []
  none_behind = drop_of_length-le (drop filled out) {i = room} (omega (arith, length-drop filled out))

  module _ (r : Option Line) (after : List ℕ) (t : FirstLineOrOver ws (lines_left ws c) (take room (drop filled out)) after r) where
    pub line_turn : (line : Line) → filled + line_room ≤ length before → r ≡ Some line → Filled ws before c₀ (put_mid filled room out after) (filled + line.length) line.next
    line_turn line l e =
        let x = first_of_lines ws (lines_left ws c) r line e t in
        let same : put_mid filled room out after ≡ take filled out ++ written x.0 (drop filled out) = ap₂ (λ s z. take filled out ++ (s ++ z)) (x.3 ∙ ap (written x.0) all_room) none_behind ∙ ap (λ s. take filled out ++ s) (append-nil (written x.0 (drop filled out))) in
        subst (λ z. Filled ws before c₀ z (filled + line.length) line.next) (sym same) (filled_turn x.0 line.next line.length l x.1 x.2)

    pub line_less : (line : Line) → r ≡ Some line → length (lines_left ws line.next) < length (lines_left ws c)
    line_less line e = let x = first_of_lines ws (lines_left ws c) r line e t in omega (arith, ap length x.1)

    pub line_over : r ≡ None → filled ≤ length before → Shows (lines_left ws c₀) ws before (put_mid filled room out after) (record { length = filled; over = true; next = c })
    line_over e l =
        let x = none_of_lines ws (lines_left ws c) r e t in
        subst (λ z. Shows (lines_left ws c₀) ws before z (record { length = filled; over = true; next = c })) (sym (ap (put_mid filled room out) x.1 ∙ put_same filled room out)) (filled_over l x.0)

-- ---- a line asked for aside says whether one is left

not_some : (b c : Bool) → c ≡ not b → b ≡ not c
not_some true c e = sym (ap not e)
not_some false c e = sym (ap not e)

pub none_of_lines_left : (ws : List ℕ) (ls : List Text) (before after : List ℕ) (r : Option Line) (b : Bool) → is_some r ≡ not b → FirstLineOrOver ws ls before after r → b ≡ is_none ls
none_of_lines_left ws [] before after r b e t = not_some b (is_some r) e ∙ ap (λ z. not (is_some z)) t.0
none_of_lines_left ws (l ∷ ls) before after r b e t = not_some b (is_some r) e ∙ ap (λ z. not (is_some z)) t.1

-- ---- what is printed for a table

pub onward_on : (ws : List ℕ) (c : Cursor) (r : Page) → r.over ≡ false → Onward ws c r → length (lines_left ws r.next) < length (lines_left ws c)
onward_on ws c r e o = subst (λ b. OnwardBy b ws c r) e o

-- the only line
pub shows_one : (l : Text) (ws before after : List ℕ) (r : Page) → 64 ≤ length before → after ≡ written l before → r.length ≡ length l → r.length ≤ 64 → r.over ≡ true → Shows (l ∷ []) ws before after r
shows_one l ws before after r room w s short o =
    let page : l ≡ lead (length before) (l ∷ []) = sym (lead_on (length before) l [] room ∙ append-nil l) in
    let none : left (length before) (l ∷ []) ≡ [] = left_on (length before) l [] room in
    record { memory = w ∙ ap (λ t. written t before) page; size = s ∙ ap length page; short = omega (arith, room, short); is_over = o ∙ sym (ap is_none none); rest = ap (λ b. rest_by b (lines_left ws r.next)) o ∙ sym none }
