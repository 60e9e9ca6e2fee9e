-- What the walk has gathered, from its start over each turn to its end.
use Rattle.std.specs.Prelude.{ℕ, suc, ◌-◌, ◌*◌, ◌<◌, ◌≤◌, Bool, ◌&&◌, not, Option, Some, None, List, [], ◌∷◌, ◌++◌, length, get_or, take, drop, set, ℤ, pos, nat_abs, ◌+ℤ◌, ◌-ℤ◌}
use Rattle.std.proofs.Common.{arith, ap, ◌∙◌, length-drop, length-set, drop_of_length-le, drop-cons, drop_at, length-take-le, get_or-set_same, get_or-set_other}
use Rattle.std.proofs.Math.Path.{◌≡◌, refl, sym}
use Rattle.std.proofs.Math.Bool.{true, false, cond}
use borrow.Author.Tests.{not-true, eqb-true, eqb-false}
use Rattle.std.proofs.lemmas.List.{set_split}
use Rattle.std.proofs.Math.Dec.{eqb}
use Rattle.std.specs.Int.Signed.{lt_z}
use Rattle.meaning.specs.Base.{keep, cons_if}
use Rattle.meaning.specs.Value.{in_range, mark}
use Rattle.meaning_window.specs.Window.{value_at, number_at, same_number, window_limit, past_window}
use Rattle.value.specs.Overflow.{reach, in_range_size}
use Rattle.theory_base.specs.Absolute.{nat_abs_add}
use Rattle.theory_window.specs.Lists.{and_left, and_right}
use Rattle.theory_window.specs.Parts.{top_at}
use Rattle.theory_window.specs.Leaders.{stays, down_from, before, before_below}
use Rattle.theory_window.specs.Next.{last_read, leaving_of, last_leaves, leaders_with, top_with}
use Rattle.window_found.specs.Parts as Parts
use Rattle.window_found.specs.Turns.{ReadyForTurn, Ended, matched_at, stays_at, turn_by_value, cells_by, turned, cells_after, passing, ending, staying, found_by, concluded}
use Rattle.window_found.specs.Checks.{checked, claimed, values_kept, found_of, Walked, EndsWith}
use Rattle.window_found.specs.declared.Numbers.{Numbers}
use Rattle.window_found.specs.declared.Walk.{Walk}
use Rattle.window_found.specs.declared.Found.{Found}
use Rattle.window_found.specs.Turning.{matched_some}
use Rattle.window_found.specs.Walking.{left_fits, top_start, top_next, claimed_long, claimed_read, left_start, left_out, left_skip, left_none, left_other, left_next, left_over, left_end}

-- a number put before those from this place on
put_before_lem : (cells : List ℕ) (j i : ℕ) → j < length cells → drop j (set cells j i) ≡ i ∷ drop (suc j) cells
put_before_lem cells j i l = ap (drop j) (set_split cells j i l) ∙ drop_at (take j cells) (i ∷ drop (suc j) cells) j (length-take-le j cells (omega arith))

-- so many values are not walked yet
pub record Walking (s area : List ℤ) (at : Numbers) (v : ℤ) (left : ℕ) (w : Walk) (cells : List ℕ) : Type 0 where
  pub slot : w.slot < length s
  pub few : left ≤ at.held
  pub unmatched : w.unmatched ≤ at.count
  pub room : w.unmatched ≤ w.from
  pub most : w.from ≤ window_limit
  pub long : length cells ≡ past_window
  pub size : nat_abs w.sum ≤ reach * (at.held - left)
  pub last : nat_abs w.last ≤ reach
  pub fits : values_kept s area at ≡ left_fits s area at.count at.total w.top w.sum w.slot w.unmatched left
  pub top : w.top ≡ top_at s area at.count w.unmatched
  pub leaves : last_read (value_at s) (pos 0) (down_from (length s) at.held at.next) ≡ last_read (value_at s) w.last (down_from (length s) left w.slot)
  pub leaders : drop w.from cells ≡ leaders_with s at.next v (drop w.unmatched (claimed area at.count))
  pub best : w.best ≡ top_with s at.next v (drop w.unmatched (claimed area at.count))

module _ (s area : List ℤ) (at : Numbers) (v : ℤ) (p : Parts.Window s area at) where
  abbrev k : ℕ
  k = at.next

  abbrev c : ℕ
  c = at.count

  abbrev ls : List ℕ
  ls = claimed area at.count

  abbrev pub started : Walk
  started = record { slot = at.next; last = pos 0; sum = pos 0; top = mark; unmatched = at.count; from = window_limit; best = v }

  pub walk_starts : (cells : List ℕ) → length cells ≡ past_window → Walking s area at v at.held started (set cells window_limit at.next)
  walk_starts cells long =
      let none : drop c ls ≡ [] = drop_of_length-le ls {i = c} (omega (arith, claimed_long s area at p)) in
      let over : drop past_window cells ≡ [] = drop_of_length-le cells {i = past_window} (omega arith) in
      record {
        slot = p.next;
        few = omega arith;
        unmatched = omega arith;
        room = omega (arith, p.count, p.few);
        most = omega arith;
        long = length-set cells window_limit k ∙ long;
        size = omega arith;
        last = omega arith;
        fits = left_start s area at p;
        top = top_start s area c;
        leaves = refl;
        leaders = put_before_lem cells window_limit k (omega arith) ∙ (ap (λ l. k ∷ l) over ∙ sym (ap (leaders_with s k v) none));
        best = sym (ap (top_with s k v) none ∙ get_or-set_same s k v (pos 0) p.next);
      }

  -- ---- a turn

  module _ (left : ℕ) (w : Walk) (cells : List ℕ) (some : 0 < left) (m : Walking s area at v left w cells) where
    abbrev i : ℕ
    i = before (length s) w.slot

    abbrev x : ℤ
    x = value_at s (before (length s) w.slot)

    abbrev u : ℕ
    u = w.unmatched

    pub ready : ReadyForTurn s w
    ready = record { few = p.few; slot = m.slot; room = m.room; most = m.most; size = omega (arith, m.size, m.few, p.held, p.few) }

    read_on : last_read (value_at s) (pos 0) (down_from (length s) at.held at.next) ≡ last_read (value_at s) x (down_from (length s) (left - 1) i)
    read_on =
        let d : left ≡ suc (left - 1) = omega arith in
        m.leaves ∙ ap (λ l. last_read (value_at s) w.last (down_from (length s) l w.slot)) d

    module _ (a : in_range (value_at s (before (length s) w.slot)) ≡ true) where
      larger : nat_abs (w.sum +ℤ x) ≤ reach * (at.held - (left - 1))
      larger = omega (arith, nat_abs_add w.sum x, in_range_size x a, m.size, m.few)

      goes_pass : lt_z w.top x ≡ false → Walking s area at v (left - 1) (passing w i x) cells
      goes_pass b = record {
        slot = before_below (length s) w.slot m.slot;
        few = omega (arith, m.few);
        unmatched = m.unmatched;
        room = m.room;
        most = m.most;
        long = m.long;
        size = larger;
        last = in_range_size x a;
        fits = left_skip s area at p w.top w.sum w.slot u left m.fits some a b;
        top = m.top;
        leaves = read_on;
        leaders = m.leaders;
        best = m.best;
      }

      module _ (b : lt_z w.top x ≡ true) (e : matched_at area w.unmatched i ≡ true) where
        led : 0 < u
        led = matched_some area u i e

        named : number_at area (u - 1) ≡ i
        named = eqb-true (number_at area (u - 1)) i (and_right (not (eqb u 0)) (eqb (number_at area (u - 1)) i) e)

        matched_more : drop (u - 1) ls ≡ i ∷ drop u ls
        matched_more =
            let g : suc (u - 1) ≡ u = omega (arith, led) in
            drop-cons ls (u - 1) 0 (omega (arith, claimed_long s area at p, m.unmatched, led))
            ∙ (λ j. (claimed_read s area at p (u - 1) (omega (arith, m.unmatched, led)) ∙ named) j ∷ drop (g j) ls)

        goes_end : stays_at i k x v ≡ false → Walking s area at v (left - 1) (ending w i x) cells
        goes_end d =
            let n : leaders_with s k v (drop (u - 1) ls) ≡ leaders_with s k v (drop u ls) = ap (leaders_with s k v) matched_more ∙ ap (λ y. cons_if y i (keep (stays s k v) (drop u ls)) ++ (k ∷ [])) d in
            record {
              slot = before_below (length s) w.slot m.slot;
              few = omega (arith, m.few);
              unmatched = omega (arith, m.unmatched);
              room = omega (arith, m.room);
              most = m.most;
              long = m.long;
              size = larger;
              last = in_range_size x a;
              fits = left_next s area at p w.top w.sum w.slot u left m.fits some a b led m.unmatched named;
              top = top_next s area c u i led m.unmatched named;
              leaves = read_on;
              leaders = m.leaders ∙ sym n;
              best = m.best ∙ ap (λ l. value_at (set s k v) (get_or l 0 0)) (sym n);
            }

        goes_stay : stays_at i k x v ≡ true → Walking s area at v (left - 1) (staying w i x) (set cells (w.from - 1) i)
        goes_stay d =
            let n : leaders_with s k v (drop (u - 1) ls) ≡ i ∷ leaders_with s k v (drop u ls) = ap (leaders_with s k v) matched_more ∙ ap (λ y. cons_if y i (keep (stays s k v) (drop u ls)) ++ (k ∷ [])) d in
            let g : suc (w.from - 1) ≡ w.from = omega (arith, led, m.room) in
            let z : i ≡ k → ⊥ = eqb-false i k (not-true (eqb i k) (and_left (not (eqb i k)) (lt_z v x) d)) in
            record {
              slot = before_below (length s) w.slot m.slot;
              few = omega (arith, m.few);
              unmatched = omega (arith, m.unmatched);
              room = omega (arith, m.room);
              most = omega (arith, m.most);
              long = length-set cells (w.from - 1) i ∙ m.long;
              size = larger;
              last = in_range_size x a;
              fits = left_next s area at p w.top w.sum w.slot u left m.fits some a b led m.unmatched named;
              top = top_next s area c u i led m.unmatched named;
              leaves = read_on;
              leaders = put_before_lem cells (w.from - 1) i (omega (arith, m.most, m.long, led, m.room)) ∙ (ap (λ j. i ∷ drop j cells) g ∙ (ap (λ l. i ∷ l) m.leaders ∙ sym n));
              best = sym (ap (λ l. value_at (set s k v) (get_or l 0 0)) n ∙ get_or-set_other s k i v (pos 0) z);
            }

    pub walk_on_lem : {after : Walk} {laid : List ℕ} → Some after ≡ turned s area at.next v w → laid ≡ cells_after s area at.next v w cells → Walking s area at v (left - 1) after laid
    unfolding turned cells_after
    walk_on_lem {after} {laid} q y = by (in_range x) (lt_z w.top x) (matched_at area u i) (stays_at i k x v) refl refl refl refl q y
      where
        by : (a b e d : Bool) → in_range x ≡ a → lt_z w.top x ≡ b → matched_at area u i ≡ e → stays_at i k x v ≡ d → Some after ≡ turn_by_value a b e d w i x → laid ≡ cells_by a b e d w i cells → Walking s area at v (left - 1) after laid
        by false b e d fa fb fe fd t z = absurd (let o : ◌≡◌ {A = ℕ} 0 1 = cc in omega arith)
        by true false e d fa fb fe fd t z = let o : after ≡ passing w i x = cc in rw (o, z) (goes_pass fa fb)
        by true true false d fa fb fe fd t z = absurd (let o : ◌≡◌ {A = ℕ} 0 1 = cc in omega arith)
        by true true true false fa fb fe fd t z = let o : after ≡ ending w i x = cc in rw (o, z) (goes_end fa fb fe fd)
        by true true true true fa fb fe fd t z = let o : after ≡ staying w i x = cc in rw (o, z) (goes_stay fa fb fe fd)

    -- the last leader cell not matched yet names another slot, or there is none
    not_matched : (b : Bool) → eqb u 0 ≡ b → in_range x ≡ true → lt_z w.top x ≡ true → (not b && eqb (number_at area (u - 1)) i) ≡ false → values_kept s area at ≡ false
    not_matched true f a b e = left_none s area at p w.top w.sum w.slot u left m.fits some a b (eqb-true u 0 f)
    not_matched false f a b e = left_other s area at p w.top w.sum w.slot u left m.fits some a b (omega (arith, eqb-false u 0 f)) m.unmatched (eqb-false (number_at area (u - 1)) i e)

    pub walk_wrong : None ≡ turned s area at.next v w → values_kept s area at ≡ false
    unfolding turned
    walk_wrong q = by (in_range x) (lt_z w.top x) (matched_at area u i) (stays_at i k x v) refl refl refl q
      where
        by : (a b e d : Bool) → in_range x ≡ a → lt_z w.top x ≡ b → matched_at area u i ≡ e → None ≡ turn_by_value a b e d w i x → values_kept s area at ≡ false
        by false b e d fa fb fe t = left_out s area at p w.top w.sum w.slot u left m.fits some fa
        by true false e d fa fb fe t = absurd (let o : ◌≡◌ {A = ℕ} 0 1 = cc in omega arith)
        by true true false d fa fb fe t = not_matched (eqb u 0) refl fa fb fe
        by true true true false fa fb fe t = absurd (let o : ◌≡◌ {A = ℕ} 0 1 = cc in omega arith)
        by true true true true fa fb fe t = absurd (let o : ◌≡◌ {A = ℕ} 0 1 = cc in omega arith)

  -- ---- the end

  pub walked_wrong : (cells : List ℕ) → values_kept s area at ≡ false → Walked s area at v None cells
  walked_wrong cells e = record { answer = sym (ap (λ b. checked b (found_of s area at v)) e); leaders = λ t. absurd (let z : true ≡ false = sym t ∙ e in let o : ◌≡◌ {A = ℕ} 0 1 = cc in omega arith) }

  module _ (w : Walk) (cells : List ℕ) (left : ℕ) (z : left ≡ 0) (m : Walking s area at v left w cells) where
    pub ends : nat_abs v ≤ reach → Ended v w
    ends l = record { sum = omega (arith, m.size, p.held, p.few); last = m.last; value = l }

    -- each leader cell is matched
    module _ (q : w.unmatched ≡ 0) where
      new : drop w.from cells ≡ leaders_with s k v ls
      new = m.leaders ∙ ap (λ u. leaders_with s k v (drop u ls)) q

      begin : w.from ≡ past_window - length (leaders_with s k v ls)
      begin = omega (arith, ap length new, length-drop w.from cells, m.long, m.most)

      ends_with : EndsWith (leaders_with s k v ls) cells
      ends_with = record { long = m.long; tail = ap (λ j. drop j cells) (sym begin) ∙ new }

      found : found_by (length s) at v w ≡ found_of s area at v
      found =
          let l : last_read (value_at s) (pos 0) (down_from (length s) at.held at.next) ≡ w.last = m.leaves ∙ ap (λ j. last_read (value_at s) w.last (down_from (length s) j w.slot)) z in
          let e : leaving_of (length s) at.held w.last ≡ leaving_of (length s) at.held (value_at s at.next) = ap (leaving_of (length s) at.held) (sym l) ∙ last_leaves (length s) at.held at.next s p.next in
          let t : w.top ≡ top_at s area c 0 = m.top ∙ ap (top_at s area c) q in
          let b : w.best ≡ top_with s k v ls = m.best ∙ ap (λ u. top_with s k v (drop u ls)) q in
          (λ j. record { size = length s; held = at.held; next = at.next; total = at.total; largest = t j; sum = at.total -ℤ e j +ℤ v; top = b j; from = begin j })

    pub walk_ends : {r : Option Found} → r ≡ concluded (length s) at v w → Walked s area at v r cells
    unfolding concluded
    walk_ends {r} q = by (eqb w.unmatched 0) refl (same_number at.total w.sum) refl q
      where
        by : (a : Bool) → eqb w.unmatched 0 ≡ a → (b : Bool) → same_number at.total w.sum ≡ b → r ≡ cond (a && b) (Some (found_by (length s) at v w)) None → Walked s area at v r cells
        by false f b g y = rw y (walked_wrong cells (left_over s area at p w.top w.sum w.slot w.unmatched left m.fits z (omega (arith, eqb-false w.unmatched 0 f)) m.unmatched))
        by true f false g y = rw y (walked_wrong cells (left_end s area at p w.top w.sum w.slot w.unmatched left m.fits z (eqb-true w.unmatched 0 f) ∙ g))
        by true f true g y =
            let e : values_kept s area at ≡ true = left_end s area at p w.top w.sum w.slot w.unmatched left m.fits z (eqb-true w.unmatched 0 f) ∙ g in
            record { answer = y ∙ (ap Some (found (eqb-true w.unmatched 0 f)) ∙ sym (ap (λ b. checked b (found_of s area at v)) e)); leaders = λ t. ends_with (eqb-true w.unmatched 0 f) }
