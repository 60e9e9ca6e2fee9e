-- The slots as a ring: one more value, and the values of slots and the slots of values.
use Rattle.std.specs.Prelude.{ℕ, zero, suc, ◌+◌, ◌-◌, ◌≤◌, ◌<◌, ◌≡◌, refl, Bool, true, false, not, cond, List, [], ◌∷◌, ◌++◌, map, length, get_or, take, drop, set, eqb, ltb, ℤ, pos}
use Rattle.std.proofs.Common.{arith, sym, ap, ap₂, ◌∙◌, append_assoc, append-nil, ne_eqb, eqb-true, ltb-true, ltb-false, lt-ltb, le-ltb, length-append, length-take, length-drop, take-append-drop, drop_of_length-le, take_at, drop_at, drop-cons, drop-drop, length-take-le}
use Rattle.std.proofs.lemmas.List.{length-replicate, set_split, drop-append-le}
use Rattle.std.proofs.Math.Seq.{append_snoc}
use Rattle.meaning.specs.Base.{all, count_from}
use Rattle.meaning_window.specs.Window.{turned, order, zeros, slots_of, after, last_of, value_at}
use Rattle.theory_base.specs.Members.{length_count_from, counted_all}
use Rattle.theory_window.specs.Lists.{all_append, all_take, all_drop, drop_up, take_up, set_up, map_turned, map_drop, values_up}

pub length_turned : {A : Type 0} (k : ℕ) (s : List A) → length (turned k s) ≡ length s
length_turned k s = omega (arith, length-append (drop k s) (take k s), length-drop k s, length-take k s)

-- a turn and the turn back
pub turned_back_lem : {A : Type 0} (n k : ℕ) (s : List A) → length s ≡ n → k ≤ n → turned (n - k) (turned k s) ≡ s
turned_back_lem n k s e l =
    let d : length (drop k s) ≡ n - k = omega (arith, length-drop k s) in
    rw (drop_at (drop k s) (take k s) (n - k) d, take_at (drop k s) (take k s) (n - k) d) (take-append-drop k s)

-- a value v at slot k: from the slot after it round, the first one is gone and v stands last
module _ {A : Type 0} (s : List A) (k : ℕ) (d v : A) (l : k < length s) where
  first_gone : drop 1 (turned k s) ≡ drop (suc k) s ++ take k s
  first_gone = ap (λ t. drop 1 (t ++ take k s)) (drop-cons s k d l)

  front : length (take k s) ≡ k
  front = length-take-le k s (omega arith)

  pub turned_push : turned (after (length s) k) (set s k v) ≡ drop 1 (turned k s) ++ (v ∷ [])
  turned_push = by (eqb (suc k) (length s)) refl
    where
      by : (b : Bool) → eqb (suc k) (length s) ≡ b → turned (cond b 0 (suc k)) (set s k v) ≡ drop 1 (turned k s) ++ (v ∷ [])
      by true e =
          let g : drop (suc k) s ≡ [] = drop_of_length-le s {i = suc k} (omega (arith, eqb-true (suc k) (length s) e)) in
          append-nil (set s k v) ∙ (set_split s k v l ∙ (ap (λ t. take k s ++ v ∷ t) g ∙ sym (ap (λ t. t ++ (v ∷ [])) (first_gone ∙ ap (λ t. t ++ take k s) g))))
      by false e =
          let w : set s k v ≡ take k s ++ (v ∷ []) ++ drop (suc k) s = set_split s k v l ∙ sym (append_snoc (take k s) v (drop (suc k) s)) in
          let n : length (take k s ++ (v ∷ [])) ≡ suc k = omega (arith, length-append (take k s) (v ∷ []), front) in
          rw (w, drop_at (take k s ++ (v ∷ [])) (drop (suc k) s) (suc k) n, take_at (take k s ++ (v ∷ [])) (drop (suc k) s) (suc k) n)
          (sym (append_assoc (drop (suc k) s) (take k s) (v ∷ [])) ∙ sym (ap (λ t. t ++ (v ∷ [])) first_gone))

-- ---- one more of n slots

-- the number held after one more value
abbrev pub grown : ℕ → ℕ → ℕ
grown n h = cond (ltb h n) (suc h) h

-- of a list of n, the last h and one more
module _ {A : Type 0} (n h : ℕ) (x : List A) (e : length x ≡ n) (l : h ≤ n) (o : 1 ≤ n) where
  -- those that stay
  abbrev pub stay : List A
  stay = drop (n - grown n h) (drop 1 x)

  pub with_last : (v : A) → drop (n - grown n h) (drop 1 x ++ (v ∷ [])) ≡ stay ++ (v ∷ [])
  with_last v = by (ltb h n) refl
    where
      by : (b : Bool) → ltb h n ≡ b → drop (n - cond b (suc h) h) (drop 1 x ++ (v ∷ [])) ≡ drop (n - cond b (suc h) h) (drop 1 x) ++ (v ∷ [])
      by true q = drop-append-le (n - suc h) (drop 1 x) (v ∷ []) (omega (arith, length-drop 1 x))
      by false q = drop-append-le (n - h) (drop 1 x) (v ∷ []) (omega (arith, length-drop 1 x, ltb-false h n q))

  pub stay_all : h < n → drop (n - h) x ≡ stay
  stay_all q =
      let g : n - h ≡ 1 + (n - suc h) = omega arith in
      rw (lt-ltb h n q, g) (sym (drop-drop (n - suc h) 1 x))

  pub stay_but_first : (d : A) → h ≡ n → drop (n - h) x ≡ get_or x 0 d ∷ stay
  stay_but_first d q =
      let g : n - h ≡ 0 = omega arith in
      rw (le-ltb h n (omega arith), g) (drop-cons x 0 d (omega arith))

pub length_grown : (n h : ℕ) → h ≤ n → grown n h ≤ n
length_grown n h l = by (ltb h n) refl
  where
    by : (b : Bool) → ltb h n ≡ b → cond b (suc h) h ≤ n
    by true q = ltb-true h n q
    by false q = l

-- the last n of them
pub last_grown : (n h : ℕ) (x : List ℤ) (v : ℤ) → length x ≡ n → h ≤ n → 1 ≤ n → last_of n (drop (n - h) x ++ (v ∷ [])) ≡ drop (n - grown n h) (drop 1 x ++ (v ∷ []))
last_grown n h x v e l o = by (ltb h n) refl
  where
    old : length (drop (n - h) x ++ (v ∷ [])) ≡ suc h
    old = omega (arith, length-append (drop (n - h) x) (v ∷ []), length-drop (n - h) x)

    by : (b : Bool) → ltb h n ≡ b → last_of n (drop (n - h) x ++ (v ∷ [])) ≡ drop (n - cond b (suc h) h) (drop 1 x ++ (v ∷ []))
    by true q =
        let u : h < n = ltb-true h n q in
        let z : length (drop (n - h) x ++ (v ∷ [])) - n ≡ 0 = omega (arith, old) in
        rw z (ap (λ t. t ++ (v ∷ [])) (stay_all n h x e l o u) ∙ (sym (with_last n h x e l o v) ∙ rw (lt-ltb h n u) refl))
    by false q =
        let u : n ≤ h = ltb-false h n q in
        let z : length (drop (n - h) x ++ (v ∷ [])) - n ≡ 1 = omega (arith, old) in
        let y : n - h ≡ 0 = omega arith in
        ap (λ m. drop m (drop (n - h) x ++ (v ∷ []))) z ∙ rw y (drop-append-le 1 x (v ∷ []) (omega arith))

pub length_last : (n h : ℕ) (w : List ℤ) (v : ℤ) → length w ≡ h → h ≤ n → length (last_of n (w ++ (v ∷ []))) ≡ grown n h
length_last n h w v e l = by (ltb h n) refl
  where
    by : (b : Bool) → ltb h n ≡ b → length (last_of n (w ++ (v ∷ []))) ≡ cond b (suc h) h
    by true q = omega (arith, length-drop (length (w ++ (v ∷ [])) - n) (w ++ (v ∷ [])), length-append w (v ∷ []), ltb-true h n q)
    by false q = omega (arith, length-drop (length (w ++ (v ∷ [])) - n) (w ++ (v ∷ [])), length-append w (v ∷ []), ltb-false h n q)

-- ---- the order of slots

module _ (n h k : ℕ) (l : h ≤ n) (i : k < n) where
  -- the slots that stay, without slot k
  abbrev pub staying : List ℕ
  staying = drop (n - grown n h) (drop 1 (turned k (count_from 0 n)))

  long : length (turned k (count_from 0 n)) ≡ n
  long = length_turned k (count_from 0 n) ∙ length_count_from 0 n

  pub order_push : order n (grown n h) (after n k) ≡ staying ++ (k ∷ [])
  order_push =
      let p : turned (after n k) (count_from 0 n) ≡ drop 1 (turned k (count_from 0 n)) ++ (k ∷ []) =
      ap (turned (after n k)) (sym (set_up n k i)) ∙ rw (length_count_from 0 n) at (turned_push (count_from 0 n) k 0 k (omega (arith, length_count_from 0 n))) in
      ap (drop (n - grown n h)) p ∙ with_last n h (turned k (count_from 0 n)) long l (omega arith) k

  pub order_room : h < n → order n h k ≡ staying
  order_room q = stay_all n h (turned k (count_from 0 n)) long l (omega arith) q

  pub order_full : h ≡ n → order n h k ≡ k ∷ staying
  order_full q = stay_but_first n h (turned k (count_from 0 n)) long l (omega arith) 0 q ∙ ap (λ t. t ∷ staying) first
    where
      first : get_or (turned k (count_from 0 n)) 0 0 ≡ k
      first = ap (λ t. get_or (t ++ take k (count_from 0 n)) 0 0) (drop_up k 0 n) ∙ start (n - k) (omega arith)
        where
          start : (m : ℕ) → 0 < m → get_or (count_from (0 + k) m ++ take k (count_from 0 n)) 0 0 ≡ k
          start zero z = absurd (omega arith)
          start (suc m) z = omega arith

  pub staying_others : all (λ j. not (eqb j k)) staying ≡ true
  staying_others = all_drop other (n - grown n h) (drop 1 (turned k (count_from 0 n))) rest
    where
      other : ℕ → Bool
      other j = not (eqb j k)

      rest : all other (drop 1 (turned k (count_from 0 n))) ≡ true
      rest =
          let m : ℕ = n - suc k in
          let e : drop 1 (turned k (count_from 0 n)) ≡ count_from (0 + suc k) m ++ count_from 0 k =
          first_gone (count_from 0 n) k 0 0 (omega (arith, length_count_from 0 n)) ∙ ap₂ (λ a b. a ++ b) (drop_up (suc k) 0 n) (take_up k 0 n (omega arith)) in
          rw e (all_append other (count_from (0 + suc k) m) (count_from 0 k)
          (counted_all other (0 + suc k) m (λ j p q. rw (ne_eqb j k (λ z. omega arith)) refl))
          (counted_all other 0 k (λ j p q. rw (ne_eqb j k (λ z. omega arith)) refl)))

pub order_in : (n h k : ℕ) → all (λ j. ltb j n) (order n h k) ≡ true
order_in n h k = all_drop below (n - h) (turned k (count_from 0 n)) (all_append below (drop k (count_from 0 n)) (take k (count_from 0 n)) (all_drop below k (count_from 0 n) each) (all_take below k (count_from 0 n) each))
  where
    below : ℕ → Bool
    below j = ltb j n

    each : all below (count_from 0 n) ≡ true
    each = counted_all below 0 n (λ j p q. lt-ltb j n (omega arith))

pub length_order : (n h k : ℕ) → h ≤ n → length (order n h k) ≡ h
length_order n h k l = omega (arith, length-drop (n - h) (turned k (count_from 0 n)), length_turned k (count_from 0 n), length_count_from 0 n)

-- ---- slots and values

-- the values in order
pub values_order : (n h k : ℕ) (s : List ℤ) → length s ≡ n → map (value_at s) (order n h k) ≡ drop (n - h) (turned k s)
values_order n h k s e = map_drop (value_at s) (n - h) (turned k (count_from 0 n)) ∙ ap (drop (n - h)) (map_turned (value_at s) k (count_from 0 n) ∙ ap (turned k) (ap (λ m. map (value_at s) (count_from 0 m)) (sym e) ∙ values_up s))

pub slots_of_values : (n h k : ℕ) (s : List ℤ) → length s ≡ n → h ≤ n → k ≤ n → take (n - h) (turned k s) ≡ zeros (n - h) → slots_of n k (drop (n - h) (turned k s)) ≡ s
slots_of_values n h k s e l i z =
    let c : n - length (drop (n - h) (turned k s)) ≡ n - h = omega (arith, length-drop (n - h) (turned k s), length_turned k s) in
    rw (c, ← z, take-append-drop (n - h) (turned k s)) (turned_back_lem n k s e i)

module _ (n k : ℕ) (w : List ℤ) (l : length w ≤ n) (i : k ≤ n) where
  filled : length (zeros (n - length w) ++ w) ≡ n
  filled = omega (arith, length-append (zeros (n - length w)) w, length-replicate (n - length w) (pos 0))

  pub length_slots : length (slots_of n k w) ≡ n
  length_slots = length_turned (n - k) (zeros (n - length w) ++ w) ∙ filled

  pub turned_slots : turned k (slots_of n k w) ≡ zeros (n - length w) ++ w
  turned_slots =
      let e : n - (n - k) ≡ k = omega arith in
      ap (λ m. turned m (slots_of n k w)) (sym e) ∙ turned_back_lem n (n - k) (zeros (n - length w) ++ w) filled (omega arith)

  pub values_of_slots : drop (n - length w) (turned k (slots_of n k w)) ≡ w
  values_of_slots = rw turned_slots (drop_at (zeros (n - length w)) w (n - length w) (length-replicate (n - length w) (pos 0)))

  pub zeros_of_slots : take (n - length w) (turned k (slots_of n k w)) ≡ zeros (n - length w)
  zeros_of_slots = rw turned_slots (take_at (zeros (n - length w)) w (n - length w) (length-replicate (n - length w) (pos 0)))
