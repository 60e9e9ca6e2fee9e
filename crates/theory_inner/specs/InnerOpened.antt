-- An opening of an inner run that is not turned back: the outer run is open, all above its heights is cleared, and the inner run stands as one opened alone.
use Rattle.std.specs.Prelude.{ℕ, suc, ◌+◌, ◌-◌, ◌≤◌, min, ◌≡◌, true, List, ◌++◌, map, reverse, get_or, length, take, drop, replicate}
use Rattle.std.proofs.Common.{arith, sym, ap, ap₂, ◌∙◌, subst, length-drop, length-take, drop_of_length-le, get_or-take, get_or-drop}
use Rattle.meaning.specs.Limits.{registers_limit, places_limit}
use Rattle.meaning.specs.Grammar.{Grammar, syn, nonterminal}
use Rattle.meaning.specs.Judgement.{Accepted}
use Rattle.meaning.specs.Value.{mark}
use Rattle.meaning.specs.Machine.{Lent, Config, opening, place_of}
use Rattle.meaning.specs.Calls.{waiting, inner, Record, Stacks, Answer, more, refused, table_refused, lent_of, lay_all, record_of}
use Rattle.meaning.specs.Fit.{Fit}
use Rattle.meaning.specs.PublicCalls.{Effect, opens}
use Rattle.meaning_inner.specs.Inner.{above, paste, cleared, with_status, with_kind, InnerEffect, inner_opens}
use Rattle.meaning_inner.specs.InnerLists.{Alone, Both, both_of, opened_alone}
use Rattle.meaning_statements.specs.CallStatements.{Met}
use Rattle.meaning_statements.specs.InnerStatements.{left_over, OpeningCase, short, bad_outer, outer_closed, is_third, unfit, bad_inner, no_register, no_place, is_opened, opening_effect}
use Rattle.theory_answers.specs.Memory.{open_is, all_clear}
use Rattle.theory_answers.specs.TurnedBack.{opening_is}
use Rattle.theory_inner.specs.Stretch.{above_registers, above_places}
use Rattle.theory_inner.specs.OpenRunKept.{open_record, opening_size}
use Rattle.theory_inner.specs.InnerAlone.{BesideAlone, stands}
use Rattle.theory_inner.specs.Cases.{inner_openings}

no_answer : (k n : ℕ) {A : Type 0} → refused k n ≡ more 0 → A
no_answer k n e = absurd (let z : ◌≡◌ {A = ℕ} 0 1 = cc in omega arith)

no_table : (k n : ℕ) {A : Type 0} → table_refused k n ≡ more 0 → A
no_table k n e = absurd (let z : ◌≡◌ {A = ℕ} 0 1 = cc in omega arith)

-- ---- the one case that is not turned back

module _ (program : Grammar → List ℕ) (outer_table inner_table area : List ℕ) (r : Record) (m : Stacks) where
  abbrev Room : Grammar → Type 0
  Room h = (syn h (nonterminal h.start) ≤ (lent_of (left_over r m)).max_registers) × (1 ≤ (lent_of (left_over r m)).max_places)

  by_opened : (Q : InnerEffect → Type 0)
      → ((g : Grammar) (x : Met outer_table g area r m) (h : Grammar) (a : Accepted inner_table h) (k : Room h) → Q (opening_effect program outer_table inner_table area r m (is_opened g x h a k.0 k.1)))
      → (inner_opens program outer_table inner_table area r m).answer ≡ more 0 → Q (inner_opens program outer_table inner_table area r m)
  by_opened Q q e = let y = inner_openings program outer_table inner_table area r m in subst Q (sym (y.1 y.0).1) (go y.0 (sym (ap (λ z. z.answer) (y.1 y.0).1) ∙ e))
    where
      go : (y : OpeningCase outer_table inner_table area r m) → (opening_effect program outer_table inner_table area r m y).answer ≡ more 0 → Q (opening_effect program outer_table inner_table area r m y)
      go (short l) e = no_answer 30 0 e
      go (bad_outer l n f j) e = no_table n f e
      go (outer_closed l g a c) e = no_answer 33 0 e
      go (is_third l g a c o) e = no_answer 40 0 e
      go (unfit l g a o c) e = no_answer 34 0 e
      go (bad_inner g x n f j) e = no_table n f e
      go (no_register g x h a l) e = no_answer 31 0 e
      go (no_place g x h a k l) e = no_answer 32 0 e
      go (is_opened g x h a k l) e = q g x h a (k, l)

  -- the outer record is open
  pub open_outer : (inner_opens program outer_table inner_table area r m).answer ≡ more 0 → r ≡ open_record r.tokens r.moves r.register_height r.place_height
  open_outer = by_opened (λ e. r ≡ open_record r.tokens r.moves r.register_height r.place_height)
      (λ g x h a k. let s = open_is r.status r.kind x.is_open in λ i. record { status = s.0 i; kind = s.1 i; tokens = r.tokens; moves = r.moves; register_height = r.register_height; place_height = r.place_height })

-- ---- what is above the heights of an outer run that fits

above_clear : {A : Type 0} (clear : A) (n b : ℕ) (xs : List A) → n ≤ length xs → ((i : ℕ) → b ≤ i → suc i ≤ n → get_or xs i clear ≡ clear) → replicate (length (drop b (take n xs))) clear ≡ drop b (take n xs)
above_clear clear n b xs l is =
    let size : length (drop b (take n xs)) ≡ n - b = length-drop b (take n xs) ∙ omega (arith, length-take n xs) in
    sym (all_clear clear (drop b (take n xs)) (λ i h. get_or-drop b (take n xs) i clear ∙ (get_or-take n xs (b + i) clear (omega arith) ∙ is (b + i) (omega arith) (omega arith))))

module _ (g : Grammar) (t n rh ph : ℕ) (m : Stacks) (f : Fit g (open_record t n rh ph) m) where
  fit_clear : cleared (above (inner rh ph) m) ≡ above (inner rh ph) m
  fit_clear =
      let a = above_clear mark (lent_of m).max_registers rh m.registers (omega arith) f.registers_cleared in
      let b = above_clear 0 (lent_of m).max_places ph m.places (omega arith) f.places_cleared in
      λ i. record { registers = a i; places = b i }

-- ---- opened above, and alone on stacks of the same lengths

-- nothing lies past the end
past : {A : Type 0} (xs ys : List A) (i j : ℕ) → length xs ≤ i → length ys ≤ j → drop i xs ≡ drop j ys
past xs ys i j h l = drop_of_length-le xs {i = i} h ∙ sym (drop_of_length-le ys {i = j} l)

pub record Begun (t n rh ph : ℕ) (m : Stacks) (b : Both) (a : Alone) (answer : Answer) : Type 0 where
  pub opens_too : answer ≡ more 0
  pub is_clear : cleared (above (inner rh ph) m) ≡ above (inner rh ph) m
  pub standing : BesideAlone t n rh ph m b a

module _ (t n rh ph : ℕ) (m m₀ : Stacks) (l : length m₀.registers ≡ (lent_of m).max_registers - rh) (k : length m₀.places ≡ (lent_of m).max_places - ph) where
  abbrev room : Stacks
  room = above (inner rh ph) m

  same_lent : lent_of m₀ ≡ lent_of room
  same_lent = ap₂ (λ x y. record { max_registers = min x registers_limit; max_places = min y places_limit }) (l ∙ sym (above_registers (inner rh ph) m)) (k ∙ sym (above_places (inner rh ph) m))

  same_laid : (g : Grammar) (c : Config) → lay_all g c m₀ ≡ lay_all g c room
  same_laid g c =
      let a : drop (lent_of m₀).max_registers m₀.registers ≡ drop (lent_of room).max_registers room.registers = past m₀.registers room.registers (lent_of m₀).max_registers (lent_of room).max_registers (omega arith) (omega (arith, above_registers (inner rh ph) m)) in
      let b : drop (lent_of m₀).max_places m₀.places ≡ drop (lent_of room).max_places room.places = past m₀.places room.places (lent_of m₀).max_places (lent_of room).max_places (omega arith) (omega (arith, above_places (inner rh ph) m)) in
      λ i. record {
        registers = reverse c.registers ++ replicate ((same_lent i).max_registers - length c.registers) mark ++ a i;
        places = reverse (map (place_of g) c.frames) ++ replicate ((same_lent i).max_places - length (map (place_of g) c.frames)) 0 ++ b i;
      }

  -- the inner run as it was opened
  opened_stands : (h : Grammar) → syn h (nonterminal h.start) ≤ (lent_of room).max_registers → 1 ≤ (lent_of room).max_places → rh ≤ (lent_of m).max_registers → ph ≤ (lent_of m).max_places
      → BesideAlone t n rh ph m (record { outer_state = with_status waiting (open_record t n rh ph); inner_state = with_kind (inner rh ph) (record_of true (opening h)); stacks = paste (inner rh ph) (lay_all h (opening h) room) m })
      (record { state = record_of true (opening h); stacks = lay_all h (opening h) room })
  opened_stands h x y a b =
      let z = opening_size h room x y in
      stands 0 0 (length (opening h).registers) (length (opening h).frames) (lay_all h (opening h) room)
      (record { register_room = a; place_room = b; registers = z.registers ∙ above_registers (inner rh ph) m; places = z.places ∙ above_places (inner rh ph) m })

  pub begun : (program : Grammar → List ℕ) (outer_table inner_table area : List ℕ) → (inner_opens program outer_table inner_table area (open_record t n rh ph) m).answer ≡ more 0
      → Begun t n rh ph m (both_of (inner_opens program outer_table inner_table area (open_record t n rh ph) m)) (opened_alone program inner_table area m₀) (opens program inner_table area m₀).answer
  begun program outer_table inner_table area = by_opened program outer_table inner_table area (open_record t n rh ph) m (λ e. Begun t n rh ph m (both_of e) (opened_alone program inner_table area m₀) (opens program inner_table area m₀).answer) made
    where
      made : (g : Grammar) (x : Met outer_table g area (open_record t n rh ph) m) (h : Grammar) (a : Accepted inner_table h) (w : Room program outer_table inner_table area (open_record t n rh ph) m h)
          → Begun t n rh ph m (both_of (opening_effect program outer_table inner_table area (open_record t n rh ph) m (is_opened g x h a w.0 w.1))) (opened_alone program inner_table area m₀) (opens program inner_table area m₀).answer
      made g x h a w =
          let b : Both = both_of (opening_effect program outer_table inner_table area (open_record t n rh ph) m (is_opened g x h a w.0 w.1)) in
          let e = (opening_is program inner_table area h m₀ x.long a).2 (subst (λ (z : Lent). syn h (nonterminal h.start) ≤ z.max_registers) (sym same_lent) w.0) (subst (λ (z : Lent). 1 ≤ z.max_places) (sym same_lent) w.1) in
          let st = opened_stands h w.0 w.1 x.fits.register_height x.fits.place_height in
          record {
            opens_too = ap (λ z. z.answer) e;
            is_clear = fit_clear g t n rh ph m x.fits;
            standing = subst (λ (z : Effect). BesideAlone t n rh ph m b (record { state = z.state; stacks = z.stacks })) (sym e) (subst (λ s. BesideAlone t n rh ph m b (record { state = record_of true (opening h); stacks = s })) (sym (same_laid h (opening h))) st);
          }
