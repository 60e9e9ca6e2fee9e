-- A buffer is well kept exactly if it is the form of a window; what the code reads from one, and what one more value makes of it.
use Rattle.std.specs.Prelude.{ℕ, zero, suc, ◌+◌, ◌-◌, ◌≤◌, ◌<◌, ◌≡◌, refl, true, false, ◌&&◌, ◌||◌, cond, length, take, drop, eqb, leb, ltb, pos, negsuc}
use Rattle.std.proofs.Common.{arith, sym, ap, ap₂, ◌∙◌, ne_eqb, eq-eqb, eqb-true, ltb-true, ltb-false, lt-ltb, le-ltb, leb-true, le-leb, length-append, length-drop, drop_of_length-le, take_at, drop_at}
use Rattle.std.proofs.Math.Bool.{Bool}
use mathlib.Core.List.{List, [], ◌∷◌, ◌++◌, map, append_assoc}
use Rattle.std.proofs.lemmas.Bool.{eqb-false}
use Rattle.std.proofs.lemmas.List.{length-replicate, length-map}
use Rattle.std.proofs.Math.IntN.{ℤ}
use Rattle.meaning.specs.Base.{all}
use Rattle.meaning.specs.Value.{in_range}
use Rattle.meaning_window.specs.Window.{total, turned, order, zeros, slots_of, after, value_at, leaders_of, leader_cells, cells, form_of, form_length, small, size_in_value, held_in, next_in, slots_in, values_in, same_number, place_fits, size_fits, written, same_cells, well_kept, window_limit, past_window}
use Rattle.theory_window.specs.Parts.{count_in, values_of, leader_area_in, is_zero, eq_numbers, values_fit, kept_as, kept_parts}
use Rattle.theory_window.specs.Lists.{and_left, and_right, both, all_append, all_turned}
use Rattle.theory_window.specs.Ring.{grown, length_grown, order_in, length_order, length_slots, slots_of_values, values_of_slots, zeros_of_slots}
use Rattle.theory_window.specs.Leaders.{length_leads, all_leads}

-- ---- numbers, zeros and lists by their tests

pub small_pos : (m : ℕ) → m ≤ window_limit → small (pos m) ≡ m
small_pos m l = rw (le-leb m window_limit l) refl

pub small_back : (z : ℤ) → small z ≤ window_limit → z ≡ pos (small z)
small_back (pos m) l = by (leb m window_limit) l
  where
    by : (b : Bool) → cond b m past_window ≤ window_limit → pos m ≡ pos (cond b m past_window)
    by true l = refl
    by false l = absurd (omega arith)
small_back (negsuc m) l = absurd (omega arith)

pub same_number_same : (a b : ℤ) → same_number a b ≡ true → a ≡ b
same_number_same (pos a) (pos b) e = ap pos (omega (arith, leb-true a b (and_left (leb a b) (leb b a) e), leb-true b a (and_right (leb a b) (leb b a) e)))
same_number_same (pos a) (negsuc b) e = absurd (let z : ◌≡◌ {A = ℕ} 0 1 = cc in omega arith)
same_number_same (negsuc a) (pos b) e = absurd (let z : ◌≡◌ {A = ℕ} 0 1 = cc in omega arith)
same_number_same (negsuc a) (negsuc b) e = ap negsuc (omega (arith, leb-true b a (and_left (leb b a) (leb a b) e), leb-true a b (and_right (leb b a) (leb a b) e)))

pub same_number_refl : (a : ℤ) → same_number a a ≡ true
same_number_refl (pos a) = both (le-leb a a (omega arith)) (le-leb a a (omega arith))
same_number_refl (negsuc a) = both (le-leb a a (omega arith)) (le-leb a a (omega arith))

pub all_zero : (l : List ℤ) → all is_zero l ≡ true → l ≡ zeros (length l)
all_zero [] h = refl
all_zero (x ∷ l) h = ap₂ (λ a t. a ∷ t) (same_number_same x (pos 0) (and_left (is_zero x) (all is_zero l) h)) (all_zero l (and_right (is_zero x) (all is_zero l) h))

pub zeros_zero : (n : ℕ) → all is_zero (zeros n) ≡ true
zeros_zero zero = refl
zeros_zero (suc n) = zeros_zero n

pub cells_same : (l : List ℤ) → same_cells l l ≡ true
cells_same [] = refl
cells_same (x ∷ l) = both (same_number_refl x) (cells_same l)

pub same_cells_lem : (a b : List ℤ) → same_cells a b ≡ true → a ≡ b
same_cells_lem [] [] e = refl
same_cells_lem [] (y ∷ b) e = absurd (let z : ◌≡◌ {A = ℕ} 0 1 = cc in omega arith)
same_cells_lem (x ∷ a) [] e = absurd (let z : ◌≡◌ {A = ℕ} 0 1 = cc in omega arith)
same_cells_lem (x ∷ a) (y ∷ b) e =
    let p : x ≡ y = same_number_same x y (and_left (same_number x y) (same_cells a b) e) in
    let q : a ≡ b = same_cells_lem a b (and_right (same_number x y) (same_cells a b) e) in
    (λ i. p i ∷ q i)

pub numbers_same : (is js : List ℕ) → eq_numbers is js ≡ true → is ≡ js
numbers_same [] [] e = refl
numbers_same [] (j ∷ js) e = absurd (let z : ◌≡◌ {A = ℕ} 0 1 = cc in omega arith)
numbers_same (i ∷ is) [] e = absurd (let z : ◌≡◌ {A = ℕ} 0 1 = cc in omega arith)
numbers_same (i ∷ is) (j ∷ js) e = ap₂ (λ a t. a ∷ t) (eqb-true i j (and_left (eqb i j) (eq_numbers is js) e)) (numbers_same is js (and_right (eqb i j) (eq_numbers is js) e))

pub numbers_refl : (is : List ℕ) → eq_numbers is is ≡ true
numbers_refl [] = refl
numbers_refl (i ∷ is) = both (eq-eqb i i refl) (numbers_refl is)

-- cells that read as slots
pub small_all : (n : ℕ) (xs : List ℤ) (ls : List ℕ) → n ≤ window_limit → map small xs ≡ ls → all (λ j. ltb j n) ls ≡ true → xs ≡ map pos ls
small_all n [] [] l e h = refl
small_all n [] (j ∷ ls) l e h = absurd (let z : ◌≡◌ {A = ℕ} 0 1 = cc in omega arith)
small_all n (x ∷ xs) [] l e h = absurd (let z : ◌≡◌ {A = ℕ} 0 1 = cc in omega arith)
small_all n (x ∷ xs) (j ∷ ls) l e h =
    let d : small x ≡ j = cc in
    let t : map small xs ≡ ls = cc in
    ap₂ (λ a r. a ∷ r) (small_back x (omega (arith, ltb-true j n (and_left (ltb j n) (all (λ j. ltb j n) ls) h))) ∙ ap pos d) (small_all n xs ls l t (and_right (ltb j n) (all (λ j. ltb j n) ls) h))

pub small_map : (n : ℕ) (ls : List ℕ) → n ≤ window_limit → all (λ j. ltb j n) ls ≡ true → map small (map pos ls) ≡ ls
small_map n [] l h = refl
small_map n (j ∷ ls) l h = ap₂ (λ a r. a ∷ r) (small_pos j (omega (arith, ltb-true j n (and_left (ltb j n) (all (λ j. ltb j n) ls) h)))) (small_map n ls l (and_right (ltb j n) (all (λ j. ltb j n) ls) h))

pub leaders_below : (n h k : ℕ) (s : List ℤ) → all (λ j. ltb j n) (leaders_of n h k s) ≡ true
leaders_below n h k s = all_leads (value_at s) (λ j. ltb j n) (order n h k) (order_in n h k)

pub leaders_few : (n h k : ℕ) (s : List ℤ) → h ≤ n → length (leaders_of n h k s) ≤ n
leaders_few n h k s l = omega (arith, length_leads (value_at s) (order n h k), length_order n h k l)

-- ---- the place

module _ (n h k : ℕ) (p : place_fits n h k ≡ true) where
  pub place_held : h ≤ n
  place_held = leb-true h n (and_left (leb h n) (ltb k n && (eqb h n || eqb k h)) p)

  place_rest : (ltb k n && (eqb h n || eqb k h)) ≡ true
  place_rest = and_right (leb h n) (ltb k n && (eqb h n || eqb k h)) p

  pub place_next : k < n
  place_next = ltb-true k n (and_left (ltb k n) (eqb h n || eqb k h) place_rest)

  pub place_room_lem : h < n → k ≡ h
  place_room_lem l = eqb-true k h (rw (ne_eqb h n (λ z. omega arith)) at (and_right (ltb k n) (eqb h n || eqb k h) place_rest))

  pub place_by : (P : Type 0) → (h ≡ n → P) → (h < n → k ≡ h → P) → P
  place_by P full room = by (ltb h n) refl
    where
      by : (b : Bool) → ltb h n ≡ b → P
      by true e = room (ltb-true h n e) (place_room_lem (ltb-true h n e))
      by false e = full (omega (arith, ltb-false h n e, place_held))

  module _ (s : List ℤ) (e : length s ≡ n) where
    -- the slots without a value
    unheld : h < n → k ≡ h → take (n - h) (turned k s) ≡ drop h s
    unheld u q = rw q (take_at (drop h s) (take h s) (n - h) (omega (arith, length-drop h s)))

    pub zeros_turned : all is_zero (drop h s) ≡ true → take (n - h) (turned k s) ≡ zeros (n - h)
    zeros_turned z = place_by (take (n - h) (turned k s) ≡ zeros (n - h))
        (λ q. let g : n - h ≡ 0 = omega arith in rw g refl)
        (λ u q. let g : length (drop h s) ≡ n - h = omega (arith, length-drop h s) in unheld u q ∙ (all_zero (drop h s) z ∙ ap zeros g))

    pub turned_zeros : take (n - h) (turned k s) ≡ zeros (n - h) → all is_zero (drop h s) ≡ true
    turned_zeros z = place_by (all is_zero (drop h s) ≡ true)
        (λ q. ap (all is_zero) (drop_of_length-le s {i = h} (omega arith)))
        (λ u q. ap (all is_zero) (sym (unheld u q) ∙ z) ∙ zeros_zero (n - h))

  pub place_push : place_fits n (grown n h) (after n k) ≡ true
  place_push = both (le-leb (grown n h) n (length_grown n h place_held)) (both (lt-ltb (after n k) n (by (eqb (suc k) n) refl)) last)
    where
      by : (b : Bool) → eqb (suc k) n ≡ b → cond b 0 (suc k) < n
      by true e = omega (arith, place_next)
      by false e = let z : suc k ≡ n → ⊥ = eqb-false (suc k) n e in omega (arith, place_next)

      or_yes : (a b : Bool) → (a ≡ false → b ≡ true) → (a || b) ≡ true
      or_yes true b f = refl
      or_yes false b f = f refl

      last : (eqb (grown n h) n || eqb (after n k) (grown n h)) ≡ true
      last = place_by ((eqb (grown n h) n || eqb (after n k) (grown n h)) ≡ true)
          (λ q. rw (le-ltb h n (omega arith), eq-eqb h n q) refl)
          (λ u q. rw (lt-ltb h n u, q) (or_yes (eqb (suc h) n) (eqb (cond (eqb (suc h) n) 0 (suc h)) (suc h)) (λ z. rw z (eq-eqb (suc h) (suc h) refl))))

pub zeros_in : (m : ℕ) → all in_range (zeros m) ≡ true
zeros_in zero = refl
zeros_in (suc m) = zeros_in m

-- values in range, and 0 in the slots without a value
pub slots_ranged : (n h k : ℕ) → place_fits n h k ≡ true → (s : List ℤ) → length s ≡ n → all is_zero (drop h s) ≡ true → all in_range (values_of n h k s) ≡ true → all in_range s ≡ true
slots_ranged n h k p s e z a =
    let m : ℕ = n - length (values_of n h k s) in
    let q : k ≤ n = omega (arith, place_next n h k p) in
    ap (all in_range) (sym (slots_of_values n h k s e (place_held n h k p) q (zeros_turned n h k p s e z)))
    ∙ all_turned in_range (n - k) (zeros m ++ values_of n h k s) (all_append in_range (zeros m) (values_of n h k s) (zeros_in m) a)

-- ---- a window that an opening and values can leave

pub record Valid (n k : ℕ) (w : List ℤ) : Type 0 where
  pub one : 1 ≤ n
  pub most : n ≤ window_limit
  pub place : place_fits n (length w) k ≡ true
  pub ranged : all in_range w ≡ true

-- ---- reading a form

module _ (n h k : ℕ) (t : ℤ) (s : List ℤ) (ls : List ℕ) (rest : List ℤ) (most : n ≤ window_limit) (e : length s ≡ n) (few : length ls ≤ n) where
  abbrev pub whole : List ℤ
  whole = cells n h k t s ls ++ rest

  area_long : length (leader_cells n ls) ≡ n
  area_long = omega (arith, length-append (map pos ls) (zeros (n - length ls)), length-map ls pos, length-replicate (n - length ls) (pos 0))

  pub cells_long : length (cells n h k t s ls) ≡ form_length n
  cells_long = omega (arith, length-append s (leader_cells n ls), area_long)

  pub read_size : size_in_value whole ≡ n
  read_size = small_pos n most

  pub read_count : count_in whole ≡ length ls
  read_count = small_pos (length ls) (omega arith)

  pub read_slots : slots_in whole ≡ s
  read_slots = ap (λ m. take m ((s ++ leader_cells n ls) ++ rest)) read_size ∙ (ap (take n) (append_assoc s (leader_cells n ls) rest) ∙ take_at s (leader_cells n ls ++ rest) n e)

  abbrev header : List ℤ
  header = pos n ∷ pos h ∷ pos k ∷ t ∷ pos (length ls) ∷ s

  parted : whole ≡ header ++ (leader_cells n ls ++ rest)
  parted = ap (λ l. pos n ∷ pos h ∷ pos k ∷ t ∷ pos (length ls) ∷ l) (append_assoc s (leader_cells n ls) rest)

  pub read_area : leader_area_in whole ≡ leader_cells n ls
  read_area =
      (λ i. take (read_size i) (drop (5 + read_size i) (parted i)))
      ∙ (ap (take n) (drop_at header (leader_cells n ls ++ rest) (5 + n) (omega arith)) ∙ take_at (leader_cells n ls) rest n area_long)

  pub read_past : drop (form_length n) whole ≡ rest
  read_past = drop_at (cells n h k t s ls) rest (form_length n) cells_long

  pub read_long : length whole ≡ form_length n + length rest
  read_long = omega (arith, length-append (cells n h k t s ls) rest, cells_long)

  leaders_read : all (λ j. ltb j n) ls ≡ true → map small (take (length ls) (leader_cells n ls)) ≡ ls
  leaders_read b = ap (map small) (take_at (map pos ls) (zeros (n - length ls)) (length ls) (length-map ls pos)) ∙ small_map n ls most b

  past_leaders : all is_zero (drop (length ls) (leader_cells n ls)) ≡ true
  past_leaders = ap (all is_zero) (drop_at (map pos ls) (zeros (n - length ls)) (length ls) (length-map ls pos)) ∙ zeros_zero (n - length ls)

module _ (n k : ℕ) (w : List ℤ) (v : Valid n k w) where
  abbrev h : ℕ
  h = length w

  held : length w ≤ n
  held = place_held n (length w) k v.place

  next : k < n
  next = place_next n (length w) k v.place

  abbrev s : List ℤ
  s = slots_of n k w

  abbrev ls : List ℕ
  ls = leaders_of n (length w) k (slots_of n k w)

  le : k ≤ n
  le = omega (arith, next)

  pub slots_long : length (slots_of n k w) ≡ n
  slots_long = length_slots n k w held le

  pub few : length (leaders_of n (length w) k (slots_of n k w)) ≤ n
  few = leaders_few n (length w) k (slots_of n k w) held

  pub form_long : length (form_of n k w) ≡ form_length n
  form_long = cells_long n h k (total w) s ls [] v.most slots_long few

  module _ (rest : List ℤ) where
    abbrev b : List ℤ
    b = form_of n k w ++ rest

    pub size_of : size_in_value b ≡ n
    size_of = small_pos n v.most

    pub held_of : held_in b ≡ length w
    held_of = small_pos (length w) (omega (arith, held, v.most))

    pub next_of : next_in b ≡ k
    next_of = small_pos k (omega (arith, next, v.most))

    pub slots_of_lem : slots_in b ≡ slots_of n k w
    slots_of_lem = read_slots n h k (total w) s ls rest v.most slots_long few

    pub past_of : drop (form_length n) b ≡ rest
    past_of = read_past n h k (total w) s ls rest v.most slots_long few

    pub values_of_lem : values_in b ≡ w
    values_of_lem = (λ i. drop (size_of i - held_of i) (turned (next_of i) (slots_of_lem i))) ∙ values_of_slots n k w held le

    values_fit_lem : values_fit n h k s (map small (take (length ls) (leader_cells n ls))) (total w) ≡ true
    values_fit_lem =
        (λ i. all in_range (values_of_slots n k w held le i) && (eq_numbers (leaders_read n h k (total w) s ls rest v.most slots_long few (leaders_below n h k s) i) ls && same_number (total w) (total (values_of_slots n k w held le i))))
        ∙ both v.ranged (both (numbers_refl ls) (same_number_refl (total w)))

    pub form_parts : kept_parts b ≡ true
    unfolding kept_parts
    form_parts =
        (λ i. kept_as (length b) (size_of i) (held_of i) (next_of i) (total w) (read_count n h k (total w) s ls rest v.most slots_long few i) (slots_of_lem i) (read_area n h k (total w) s ls rest v.most slots_long few i))
        ∙ both (both (le-leb 1 n v.one) (both (le-leb n window_limit v.most) (le-leb (form_length n) (length b) (omega (arith, read_long n h k (total w) s ls rest v.most slots_long few)))))
        (both v.place
        (both (le-leb (length ls) n few)
        (both (both (turned_zeros n (length w) k v.place s slots_long (zeros_of_slots n k w held le)) (past_leaders n h k (total w) s ls rest v.most slots_long few)) values_fit_lem)))

    pub form_kept : well_kept b ≡ true
    unfolding well_kept
    form_kept =
        (λ i. kept_form (length b) (size_of i) (held_of i) (next_of i) (values_of_lem i))
        ∙ both (both (le-leb 1 n v.one) (both (le-leb n window_limit v.most) (le-leb (form_length n) (length b) (omega (arith, read_long n h k (total w) s ls rest v.most slots_long few)))))
        (both v.place
        (both v.ranged
        (ap (λ l. same_cells b (form_of n k w ++ l)) past_of ∙ cells_same b)))
      where
        kept_form : (long m j i : ℕ) → List ℤ → Bool
        kept_form long m j i u = size_fits m long && (place_fits m j i && (all in_range u && same_cells b (written m i u b)))
