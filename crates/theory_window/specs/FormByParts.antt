-- A well kept buffer is the form of its values: part by part, and with one more value.
use Rattle.std.specs.Prelude.{ℕ, suc, ◌+◌, ◌-◌, ◌*◌, ◌≤◌, ◌<◌, ◌≡◌, refl, Bool, true, false, ◌&&◌, cond, List, [], ◌∷◌, ◌++◌, map, length, get_or, take, drop, set, eqb, leb, ltb, ℤ, pos, ◌+ℤ◌, ◌-ℤ◌}
use Rattle.std.proofs.Common.{arith, sym, ap, ap₂, ◌∙◌, append_assoc, eq-eqb, ne_eqb, ltb-true, ltb-false, lt-ltb, leb-true, length-drop, length-set, take-append-drop, get_or-take, drop-drop, length-take-le, get_or-append-add}
use Rattle.std.proofs.lemmas.List.{length-map, take-append-le}
use Rattle.std.proofs.Math.ListN.{get_or-append, get_or-map}
use Rattle.std.proofs.Math.Seq.{take-nil}
use Rattle.meaning.specs.Base.{all, keep}
use Rattle.meaning.specs.Value.{in_range, mark}
use Rattle.meaning_window.specs.Window.{total, largest, totals, empty, scan_of, turned, order, zeros, slots_of, after, value_at, leads, leaders_of, leader_cells, cells, window_limit}
use Rattle.meaning_window.specs.Window.{form_of, form_length, small, number_at, size_in_value, held_in, next_in, total_in, slots_in, values_in, same_number, size_fits, place_fits, same_cells, well_kept, written, values_with}
use Rattle.meaning_window.specs.WindowStatements.{answer_in}
use Rattle.theory_window.specs.Parts.{count_in, leader_area_in, is_zero, eq_numbers, values_of, top_at, answer_of, values_fit, rest_zero, kept_as, kept_parts}
use Rattle.theory_window.specs.Lists.{and_left, and_right, both, all_append, all_drop, all_turned, all_get_d, same_test}
use Rattle.theory_window.specs.Ring.{length_turned, turned_push, grown, length_grown, last_grown, length_last, values_order, slots_of_values, length_slots, values_of_slots}
use Rattle.theory_window.specs.Leaders.{first_leads, some_leads, stays, leaders_push}
use Rattle.theory_window.specs.Sums.{total_values, total_set}
use Rattle.theory_window.specs.Kept.{small_pos, small_back, same_number_same, all_zero, numbers_same, small_all, leaders_below, place_held, place_next, zeros_turned, slots_ranged, place_push, same_cells_lem, Valid, form_parts, form_kept}

-- ---- a well kept buffer

first_zeros : (n h : ℕ) (x : List ℤ) (v : ℤ) → length x ≡ n → h ≤ n → take (n - h) x ≡ zeros (n - h) → take (n - grown n h) (drop 1 x ++ (v ∷ [])) ≡ zeros (n - grown n h)
first_zeros n h x v e l z = by (ltb h n) refl
  where
    less : (m : ℕ) (y : List ℤ) → take m (drop 1 y) ≡ drop 1 (take (suc m) y)
    less m [] = take-nil m
    less m (a ∷ y) = refl

    by : (b : Bool) → ltb h n ≡ b → take (n - cond b (suc h) h) (drop 1 x ++ (v ∷ [])) ≡ zeros (n - cond b (suc h) h)
    by true q =
        let u : h < n = ltb-true h n q in
        let g : n - h ≡ suc (n - suc h) = omega arith in
        let y : take (suc (n - suc h)) x ≡ zeros (suc (n - suc h)) = rw g at z in
        take-append-le (n - suc h) (drop 1 x) (v ∷ []) (omega (arith, length-drop 1 x)) ∙ (less (n - suc h) x ∙ ap (drop 1) y)
    by false q =
        let g : n - h ≡ 0 = omega (arith, ltb-false h n q) in
        rw g refl

-- the tests that it passed
pub record TestsPassed (b : List ℤ) (n h k c : ℕ) (s area : List ℤ) : Type 0 where
  pub one : 1 ≤ n
  pub most : n ≤ window_limit
  pub long : form_length n ≤ length b
  pub place : place_fits n h k ≡ true
  pub ranged : all in_range s ≡ true
  pub unheld : all is_zero (drop h s) ≡ true
  pub sum : total_in b ≡ total s
  pub count : c ≤ n
  pub leaders : map small (take c area) ≡ leaders_of n h k s
  pub after_leaders : all is_zero (drop c area) ≡ true

module _ (b : List ℤ) (n h k c : ℕ) (s area : List ℤ) (e : kept_as (length b) n h k (total_in b) c s area ≡ true) where
  abbrev vs : List ℤ
  vs = values_of n h k s

  abbrev claimed : List ℕ
  claimed = map small (take c area)

  abbrev rest3 : Bool
  rest3 = rest_zero h s c area && values_fit n h k s claimed (total_in b)

  abbrev rest2 : Bool
  rest2 = leb c n && rest3

  abbrev rest1 : Bool
  rest1 = place_fits n h k && rest2

  sizes : (leb n window_limit && leb (form_length n) (length b)) ≡ true
  sizes = and_right (leb 1 n) (leb n window_limit && leb (form_length n) (length b)) (and_left (size_fits n (length b)) rest1 e)

  passed_long : form_length n ≤ length b
  passed_long = leb-true (form_length n) (length b) (and_right (leb n window_limit) (leb (form_length n) (length b)) sizes)

  passed_by_lem : length s ≡ n → TestsPassed b n h k c s area
  passed_by_lem long =
      let q1 : rest1 ≡ true = and_right (size_fits n (length b)) rest1 e in
      let q2 : rest2 ≡ true = and_right (place_fits n h k) rest2 q1 in
      let q3 : rest3 ≡ true = and_right (leb c n) rest3 q2 in
      let z : rest_zero h s c area ≡ true = and_left (rest_zero h s c area) (values_fit n h k s claimed (total_in b)) q3 in
      let f : values_fit n h k s claimed (total_in b) ≡ true = and_right (rest_zero h s c area) (values_fit n h k s claimed (total_in b)) q3 in
      let g : (eq_numbers claimed (leaders_of n h k s) && same_number (total_in b) (total vs)) ≡ true = and_right (all in_range vs) (eq_numbers claimed (leaders_of n h k s) && same_number (total_in b) (total vs)) f in
      let p : place_fits n h k ≡ true = and_left (place_fits n h k) rest2 q1 in
      let u : all is_zero (drop h s) ≡ true = and_left (all is_zero (drop h s)) (all is_zero (drop c area)) z in
      record {
        one = leb-true 1 n (and_left (leb 1 n) (leb n window_limit && leb (form_length n) (length b)) (and_left (size_fits n (length b)) rest1 e));
        most = leb-true n window_limit (and_left (leb n window_limit) (leb (form_length n) (length b)) sizes);
        long = passed_long;
        place = p;
        ranged = slots_ranged n h k p s long u (and_left (all in_range vs) (eq_numbers claimed (leaders_of n h k s) && same_number (total_in b) (total vs)) f);
        unheld = u;
        sum = same_number_same (total_in b) (total vs) (and_right (eq_numbers claimed (leaders_of n h k s)) (same_number (total_in b) (total vs)) g) ∙ total_values (n - h) k s (zeros_turned n h k p s long u);
        count = leb-true c n (and_left (leb c n) rest3 q2);
        leaders = numbers_same claimed (leaders_of n h k s) (and_left (eq_numbers claimed (leaders_of n h k s)) (same_number (total_in b) (total vs)) g);
        after_leaders = and_right (all is_zero (drop h s)) (all is_zero (drop c area)) z;
      }

slots_long : (b : List ℤ) → form_length (size_in_value b) ≤ length b → length (slots_in b) ≡ size_in_value b
slots_long b l = length-take-le (size_in_value b) (drop 5 b) (omega (arith, length-drop 5 b))

abbrev pub PassedIn : List ℤ → Type 0
PassedIn b = TestsPassed b (size_in_value b) (held_in b) (next_in b) (count_in b) (slots_in b) (leader_area_in b)

passed_parts : (b : List ℤ) → kept_parts b ≡ true → PassedIn b
unfolding kept_parts
passed_parts b e =
    let n = size_in_value b in
    passed_by_lem b n (held_in b) (next_in b) (count_in b) (slots_in b) (leader_area_in b) e (slots_long b (passed_long b n (held_in b) (next_in b) (count_in b) (slots_in b) (leader_area_in b) e))

five : (b : List ℤ) → 5 ≤ length b → b ≡ get_or b 0 (pos 0) ∷ get_or b 1 (pos 0) ∷ get_or b 2 (pos 0) ∷ get_or b 3 (pos 0) ∷ get_or b 4 (pos 0) ∷ drop 5 b
five [] l = absurd (omega arith)
five (x0 ∷ []) l = absurd (omega arith)
five (x0 ∷ x1 ∷ []) l = absurd (omega arith)
five (x0 ∷ x1 ∷ x2 ∷ []) l = absurd (omega arith)
five (x0 ∷ x1 ∷ x2 ∷ x3 ∷ []) l = absurd (omega arith)
five (x0 ∷ x1 ∷ x2 ∷ x3 ∷ x4 ∷ b) l = refl

-- the cells after the first five
pub parts : (n : ℕ) (b : List ℤ) → drop 5 b ≡ take n (drop 5 b) ++ (take n (drop (5 + n) b) ++ drop (form_length n) b)
parts n b =
    let e : 5 + n + n ≡ 5 + 2 * n = omega arith in
    sym (take-append-drop n (drop 5 b))
    ∙ ap (λ l. take n (drop 5 b) ++ l) (drop-drop n 5 b ∙ (sym (take-append-drop n (drop (5 + n) b)) ∙ ap (λ l. take n (drop (5 + n) b) ++ l) (drop-drop n (5 + n) b ∙ ap (λ m. drop m b) e)))

values_long : (b : List ℤ) → form_length (size_in_value b) ≤ length b → held_in b ≤ size_in_value b → length (values_in b) ≡ held_in b
values_long b l m = omega (arith, length-drop (size_in_value b - held_in b) (turned (next_in b) (slots_in b)), length_turned (next_in b) (slots_in b), slots_long b l)

module _ (b : List ℤ) (kept : PassedIn b) where
  abbrev n : ℕ
  n = size_in_value b

  abbrev h : ℕ
  h = held_in b

  abbrev k : ℕ
  k = next_in b

  abbrev s : List ℤ
  s = slots_in b

  pub kept_held : held_in b ≤ size_in_value b
  kept_held = place_held n h k kept.place

  pub kept_next : next_in b < size_in_value b
  kept_next = place_next n h k kept.place

  pub kept_slots : length (slots_in b) ≡ size_in_value b
  kept_slots = slots_long b kept.long

  pub kept_zeros : take (size_in_value b - held_in b) (turned (next_in b) (slots_in b)) ≡ zeros (size_in_value b - held_in b)
  kept_zeros = zeros_turned n h k kept.place s kept_slots kept.unheld

  held_long : length (values_in b) ≡ held_in b
  held_long = values_long b kept.long kept_held

  pub kept_slots_of : slots_of (size_in_value b) (next_in b) (values_in b) ≡ slots_in b
  kept_slots_of = slots_of_values n h k s kept_slots kept_held (omega (arith, kept_next)) kept_zeros

  pub kept_valid : Valid (size_in_value b) (next_in b) (values_in b)
  kept_valid = record {
    one = kept.one;
    most = kept.most;
    place = ap (λ m. place_fits n m k) held_long ∙ kept.place;
    ranged = all_drop in_range (n - h) (turned k s) (all_turned in_range k s kept.ranged);
  }

  area_long : length (leader_area_in b) ≡ size_in_value b
  area_long = length-take-le n (drop (5 + n) b) (omega (arith, length-drop (5 + n) b, kept.long))

  pub kept_count : count_in b ≡ length (leaders_of (size_in_value b) (held_in b) (next_in b) (slots_in b))
  kept_count = omega (arith, ap length kept.leaders, length-map (take (count_in b) (leader_area_in b)) small, length-take-le (count_in b) (leader_area_in b) (omega (arith, area_long, kept.count)))

  pub kept_area : leader_area_in b ≡ leader_cells (size_in_value b) (leaders_of (size_in_value b) (held_in b) (next_in b) (slots_in b))
  kept_area =
      let d : length (drop (count_in b) (leader_area_in b)) ≡ n - length (leaders_of n h k s) = omega (arith, length-drop (count_in b) (leader_area_in b), area_long, kept_count) in
      sym (take-append-drop (count_in b) (leader_area_in b))
      ∙ ap₂ (λ x y. x ++ y) (small_all n (take (count_in b) (leader_area_in b)) (leaders_of n h k s) kept.most kept.leaders (leaders_below n h k s))
      (all_zero (drop (count_in b) (leader_area_in b)) kept.after_leaders ∙ ap zeros d)

  -- the buffer part by part
  pub kept_cells : b ≡ cells (size_in_value b) (held_in b) (next_in b) (total (slots_in b)) (slots_in b) (leaders_of (size_in_value b) (held_in b) (next_in b) (slots_in b)) ++ drop (form_length (size_in_value b)) b
  kept_cells =
      let e0 : get_or b 0 (pos 0) ≡ pos n = small_back (get_or b 0 (pos 0)) kept.most in
      let e1 : get_or b 1 (pos 0) ≡ pos h = small_back (get_or b 1 (pos 0)) (omega (arith, kept_held, kept.most)) in
      let e2 : get_or b 2 (pos 0) ≡ pos k = small_back (get_or b 2 (pos 0)) (omega (arith, kept_next, kept.most)) in
      let e4 : get_or b 4 (pos 0) ≡ pos (length (leaders_of n h k s)) = small_back (get_or b 4 (pos 0)) (omega (arith, kept.count, kept.most)) ∙ ap pos kept_count in
      let e5 : drop 5 b ≡ (s ++ leader_cells n (leaders_of n h k s)) ++ drop (form_length n) b = parts n b ∙ (ap (λ l. s ++ (l ++ drop (form_length n) b)) kept_area ∙ sym (append_assoc s (leader_cells n (leaders_of n h k s)) (drop (form_length n) b))) in
      five b (omega (arith, kept.long)) ∙ (λ i. e0 i ∷ e1 i ∷ e2 i ∷ kept.sum i ∷ e4 i ∷ e5 i)

  pub kept_form_lem : b ≡ written (size_in_value b) (next_in b) (values_in b) b
  kept_form_lem =
      let t : total (values_in b) ≡ total s = total_values (n - h) k s kept_zeros in
      kept_cells ∙ sym (λ i. cells n (held_long i) k (t i) (kept_slots_of i) (leaders_of n (held_long i) k (kept_slots_of i)) ++ drop (form_length n) b)

  -- ---- one more value

  module _ (v : ℤ) where
    pub push_values : values_with v b ≡ drop (size_in_value b - grown (size_in_value b) (held_in b)) (turned (after (size_in_value b) (next_in b)) (set (slots_in b) (next_in b) v))
    push_values =
        let q : k < length s = omega (arith, kept_next, kept_slots) in
        last_grown n h (turned k s) v (length_turned k s ∙ kept_slots) kept_held kept.one
        ∙ ap (drop (n - grown n h)) (sym (turned_push s k (pos 0) v q) ∙ ap (λ m. turned (after m k) (set s k v)) kept_slots)

    pub push_zeros : take (size_in_value b - grown (size_in_value b) (held_in b)) (turned (after (size_in_value b) (next_in b)) (set (slots_in b) (next_in b) v)) ≡ zeros (size_in_value b - grown (size_in_value b) (held_in b))
    push_zeros =
        let q : k < length s = omega (arith, kept_next, kept_slots) in
        ap (take (n - grown n h)) (ap (λ m. turned (after m k) (set s k v)) (sym kept_slots) ∙ turned_push s k (pos 0) v q)
        ∙ first_zeros n h (turned k s) v (length_turned k s ∙ kept_slots) kept_held kept_zeros

    pub push_long : length (values_with v b) ≡ grown (size_in_value b) (held_in b)
    push_long = length_last n h (values_in b) v held_long kept_held

    pub set_long : length (set s k v) ≡ size_in_value b
    set_long = length-set s k v ∙ kept_slots

    pub push_slots : slots_of (size_in_value b) (after (size_in_value b) (next_in b)) (values_with v b) ≡ set (slots_in b) (next_in b) v
    push_slots =
        ap (slots_of n (after n k)) push_values
        ∙ slots_of_values n (grown n h) (after n k) (set s k v) set_long (length_grown n h kept_held) (omega (arith, place_next n (grown n h) (after n k) (place_push n h k kept.place))) push_zeros

    pub push_total : total (values_with v b) ≡ total (slots_in b) -ℤ get_or (slots_in b) (next_in b) (pos 0) +ℤ v
    push_total =
        ap total push_values
        ∙ (total_values (n - grown n h) (after n k) (set s k v) push_zeros
        ∙ total_set s k v (omega (arith, kept_next, kept_slots)))

    pub push_valid : in_range v ≡ true → Valid (size_in_value b) (after (size_in_value b) (next_in b)) (values_with v b)
    push_valid r = record {
      one = kept.one;
      most = kept.most;
      place = ap (λ m. place_fits n m (after n k)) push_long ∙ place_push n h k kept.place;
      ranged = all_drop in_range (length (values_in b ++ (v ∷ [])) - n) (values_in b ++ (v ∷ [])) (all_append in_range (values_in b) (v ∷ []) kept_valid.ranged (both r refl));
    }

    -- the form of the window with one more value, by what the code makes of the old one
    pub push_form : form_of (size_in_value b) (after (size_in_value b) (next_in b)) (values_with v b)
        ≡ cells (size_in_value b) (grown (size_in_value b) (held_in b)) (after (size_in_value b) (next_in b)) (total_in b -ℤ get_or (slots_in b) (next_in b) (pos 0) +ℤ v) (set (slots_in b) (next_in b) v) (keep (stays (slots_in b) (next_in b) v) (leaders_of (size_in_value b) (held_in b) (next_in b) (slots_in b)) ++ (next_in b ∷ []))
    push_form =
        let t : total (values_with v b) ≡ total_in b -ℤ get_or s k (pos 0) +ℤ v = push_total ∙ ap (λ x. x -ℤ get_or s k (pos 0) +ℤ v) (sym kept.sum) in
        (λ i. cells n (push_long i) (after n k) (t i) (push_slots i) (leaders_of n (push_long i) (after n k) (push_slots i)))
        ∙ ap (cells n (grown n h) (after n k) (total_in b -ℤ get_or s k (pos 0) +ℤ v) (set s k v)) (leaders_push n h k kept_held kept_next s kept_slots v)

-- ---- what stands in the cells is what a scan gives

-- the value at the first leader of slots with values v and those after it
pub first_value : (f : ℕ → ℤ) (is : List ℕ) (v : ℤ) (vs : List ℤ) → map f is ≡ v ∷ vs → (0 < length (leads f is)) × (f (get_or (leads f is) 0 0) ≡ largest v vs)
first_value f [] v vs e = absurd (let z : ◌≡◌ {A = ℕ} 0 1 = cc in omega arith)
first_value f (i ∷ is) v vs e =
    let a : f i ≡ v = cc in
    let b : map f is ≡ vs = cc in
    (some_leads f i is, first_leads f i is ∙ (λ j. largest (a j) (b j)))

-- the first leader's cell
first_cell : (n : ℕ) (ls : List ℕ) (rest : List ℤ) → 0 < length ls → get_or (leader_cells n ls ++ rest) 0 (pos 0) ≡ pos (get_or ls 0 0)
first_cell n [] rest l = absurd (omega arith)
first_cell n (i ∷ ls) rest l = refl

module _ (n k : ℕ) (w : List ℤ) (valid : Valid n k w) (rest : List ℤ) where
  pub answer_form : answer_in (form_of n k w ++ rest) ≡ scan_of w
  answer_form = by w refl
    where
      cell : ℕ → ℤ
      cell i = get_or (form_of n k w ++ rest) (5 + i) (pos 0)

      held : length w ≤ n
      held = place_held n (length w) k valid.place

      le : k ≤ n
      le = omega (arith, place_next n (length w) k valid.place)

      sl : List ℤ
      sl = slots_of n k w

      ls : List ℕ
      ls = leaders_of n (length w) k sl

      long : length sl ≡ n
      long = length_slots n k w held le

      -- the cells after the first five
      past : (i : ℕ) → cell i ≡ get_or (sl ++ (leader_cells n ls ++ rest)) i (pos 0)
      past i = get_or-append-add (pos n ∷ pos (length w) ∷ pos k ∷ total w ∷ pos (length ls) ∷ []) ((sl ++ leader_cells n ls) ++ rest) i (pos 0) ∙ ap (λ l. get_or l i (pos 0)) (append_assoc sl (leader_cells n ls) rest)

      in_order : map (value_at sl) (order n (length w) k) ≡ w
      in_order = values_order n (length w) k sl long ∙ values_of_slots n k w held le

      largest_in : (v : ℤ) (vs : List ℤ) → w ≡ v ∷ vs → get_or (form_of n k w ++ rest) (5 + number_at (form_of n k w ++ rest) (5 + size_in_value (form_of n k w ++ rest))) (pos 0) ≡ largest v vs
      largest_in v vs e =
          let f = first_value (value_at sl) (order n (length w) k) v vs (in_order ∙ e) in
          let z : n ≡ length sl + 0 = omega (arith, long) in
          let first : cell n ≡ pos (get_or ls 0 0) = past n ∙ (ap (λ i. get_or (sl ++ (leader_cells n ls ++ rest)) i (pos 0)) z ∙ (get_or-append-add sl (leader_cells n ls ++ rest) 0 (pos 0) ∙ first_cell n ls rest f.0)) in
          let below : get_or ls 0 0 < n = ltb-true (get_or ls 0 0) n (all_get_d (λ j. ltb j n) ls 0 0 (lt-ltb 0 n valid.one) (leaders_below n (length w) k sl)) in
          let number : number_at (form_of n k w ++ rest) (5 + size_in_value (form_of n k w ++ rest)) ≡ get_or ls 0 0 = ap (λ m. small (cell m)) (small_pos n valid.most) ∙ (ap small first ∙ small_pos (get_or ls 0 0) (omega (arith, valid.most))) in
          ap cell number ∙ (past (get_or ls 0 0) ∙ (get_or-append sl (leader_cells n ls ++ rest) (pos 0) (get_or ls 0 0) (omega (arith, long)) ∙ f.1))

      small_held : held_in (form_of n k w ++ rest) ≡ length w
      small_held = small_pos (length w) (omega (arith, held, valid.most))

      by : (u : List ℤ) → w ≡ u → answer_in (form_of n k w ++ rest) ≡ scan_of u
      by [] e = ap (λ m. cond (eqb m 0) empty (totals (total w) (get_or (form_of n k w ++ rest) (5 + number_at (form_of n k w ++ rest) (5 + size_in_value (form_of n k w ++ rest))) (pos 0)))) (small_held ∙ ap length e)
      by (v ∷ vs) e =
          let m : held_in (form_of n k w ++ rest) ≡ suc (length vs) = small_held ∙ ap length e in
          ap (λ m. cond (eqb m 0) empty (totals (total w) (get_or (form_of n k w ++ rest) (5 + number_at (form_of n k w ++ rest) (5 + size_in_value (form_of n k w ++ rest))) (pos 0)))) m
          ∙ (ap (λ b. cond b empty (totals (total w) (get_or (form_of n k w ++ rest) (5 + number_at (form_of n k w ++ rest) (5 + size_in_value (form_of n k w ++ rest))) (pos 0)))) (ne_eqb (suc (length vs)) 0 (λ z. omega arith))
          ∙ (λ i. totals (total (e i)) (largest_in v vs e i)))

-- what the code's walk has read of a buffer is what a scan gives
module _ (b : List ℤ) (kept : PassedIn b) where
  abbrev c : ℕ
  c = count_in b

  abbrev area : List ℤ
  area = leader_area_in b

  top_largest : (v : ℤ) (vs : List ℤ) → values_in b ≡ v ∷ vs → top_at (slots_in b) (leader_area_in b) (count_in b) 0 ≡ largest v vs
  top_largest v vs e =
      let n = size_in_value b in
      let f = first_value (value_at (slots_in b)) (order n (held_in b) (next_in b)) v vs (values_order n (held_in b) (next_in b) (slots_in b) (kept_slots b kept) ∙ e) in
      let some : 0 < c = omega (arith, kept_count b kept, f.0) in
      let first : number_at area 0 ≡ get_or (leaders_of n (held_in b) (next_in b) (slots_in b)) 0 0 =
      ap small (sym (get_or-take c area 0 (pos 0) some)) ∙ (sym (get_or-map small (take c area) 0 (pos 0)) ∙ ap (λ l. get_or l 0 0) kept.leaders) in
      ap (λ x. cond x mark (value_at (slots_in b) (number_at area 0))) (ne_eqb 0 c (λ z. omega arith)) ∙ (ap (value_at (slots_in b)) first ∙ f.1)

  pub answer_read : answer_of (held_in b) (total_in b) (top_at (slots_in b) (leader_area_in b) (count_in b) 0) ≡ scan_of (values_in b)
  answer_read = by (values_in b) refl
    where
      by : (u : List ℤ) → values_in b ≡ u → answer_of (held_in b) (total_in b) (top_at (slots_in b) (leader_area_in b) (count_in b) 0) ≡ scan_of u
      by [] e = ap (λ x. cond x empty (totals (total_in b) (top_at (slots_in b) area c 0))) (eq-eqb (held_in b) 0 (sym (held_long b kept) ∙ ap length e))
      by (v ∷ vs) e =
          let some : held_in b ≡ suc (length vs) = sym (held_long b kept) ∙ ap length e in
          let t : total_in b ≡ total (v ∷ vs) = kept.sum ∙ (sym (total_values (size_in_value b - held_in b) (next_in b) (slots_in b) (kept_zeros b kept)) ∙ ap total e) in
          ap (λ x. cond x empty (totals (total_in b) (top_at (slots_in b) area c 0))) (ne_eqb (held_in b) 0 (λ z. omega arith)) ∙ (λ i. totals (t i) (top_largest v vs e i))

-- ---- the tests of the parts answer whether a buffer is well kept

well_parts : (b : List ℤ) → well_kept b ≡ true → kept_parts b ≡ true
unfolding well_kept
well_parts b e =
    let n = size_in_value b in
    let vs = values_in b in
    let q1 : rest1 ≡ true = and_right (size_fits n (length b)) rest1 e in
    let q2 : rest2 ≡ true = and_right (place_fits n (held_in b) (next_in b)) rest2 q1 in
    let p0 : size_fits n (length b) ≡ true = and_left (size_fits n (length b)) rest1 e in
    let p1 : place_fits n (held_in b) (next_in b) ≡ true = and_left (place_fits n (held_in b) (next_in b)) rest2 q1 in
    let m1 : (leb n window_limit && leb (form_length n) (length b)) ≡ true = and_right (leb 1 n) (leb n window_limit && leb (form_length n) (length b)) p0 in
    let long : form_length n ≤ length b = leb-true (form_length n) (length b) (and_right (leb n window_limit) (leb (form_length n) (length b)) m1) in
    let valid : Valid (size_in_value b) (next_in b) (values_in b) = record {
      one = leb-true 1 n (and_left (leb 1 n) (leb n window_limit && leb (form_length n) (length b)) p0);
      most = leb-true n window_limit (and_left (leb n window_limit) (leb (form_length n) (length b)) m1);
      place = ap (λ m. place_fits n m (next_in b)) (values_long b long (place_held n (held_in b) (next_in b) p1)) ∙ p1;
      ranged = and_left (all in_range vs) same q2;
    } in
    ap kept_parts (same_cells_lem b (written n (next_in b) vs b) (and_right (all in_range vs) same q2)) ∙ form_parts n (next_in b) vs valid (drop (form_length n) b)
  where
    same : Bool
    same = same_cells b (written (size_in_value b) (next_in b) (values_in b) b)

    rest2 : Bool
    rest2 = all in_range (values_in b) && same

    rest1 : Bool
    rest1 = place_fits (size_in_value b) (held_in b) (next_in b) && rest2

pub passed : (b : List ℤ) → well_kept b ≡ true → PassedIn b
passed b e = passed_parts b (well_parts b e)

pub kept_parts_lem : (b : List ℤ) → kept_parts b ≡ well_kept b
kept_parts_lem b = same_test (kept_parts b) (well_kept b) there (well_parts b)
  where
    there : kept_parts b ≡ true → well_kept b ≡ true
    there e =
        let p = passed_parts b e in
        ap well_kept (kept_form_lem b p) ∙ form_kept (size_in_value b) (next_in b) (values_in b) (kept_valid b p) (drop (form_length (size_in_value b)) b)

-- a well kept buffer answers by a scan of its values
pub answer_kept : (b : List ℤ) → well_kept b ≡ true → answer_in b ≡ scan_of (values_in b)
answer_kept b e =
    let p = passed b e in
    ap answer_in (kept_form_lem b p) ∙ answer_form (size_in_value b) (next_in b) (values_in b) (kept_valid b p) (drop (form_length (size_in_value b)) b)
