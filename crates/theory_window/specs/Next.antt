-- The window with one more value, by what one walk from the newest value has read: the value that leaves, the leaders after it, total and largest.
use Rattle.std.specs.Prelude.{ℕ, suc, ◌+◌, ◌≤◌, ◌<◌, ◌≡◌, refl, Bool, true, false, cond, length, get_or, drop, set, eqb, ltb, ℤ, pos, ◌+ℤ◌, ◌-ℤ◌}
use Rattle.std.proofs.Common.{arith, sym, ap, ◌∙◌, eqb-true, ltb-false, get_or-drop}
use mathlib.Core.List.{List, [], ◌∷◌, ◌++◌, reverse, reverse-cons, map}
use Rattle.std.proofs.lemmas.Bool.{eqb-false}
use Rattle.meaning.specs.Base.{all, keep}
use Rattle.meaning_window.specs.Window.{total, largest, totals, scan_of, after, value_at, order, leaders_of, size_in_value, held_in, next_in, total_in, slots_in, place_fits, values_with}
use Rattle.theory_window.specs.Parts.{is_zero}
use Rattle.theory_window.specs.Lists.{all_get_d}
use Rattle.theory_window.specs.Ring.{grown, staying, order_full, values_order}
use Rattle.theory_window.specs.Leaders.{stays, leaders_push, down_from, down_order}
use Rattle.theory_window.specs.Kept.{same_number_same, place_held, place_room_lem}
use Rattle.theory_window.specs.FormByParts.{PassedIn, kept_held, kept_next, kept_slots, set_long, push_values, push_long, push_total, first_value}

-- ---- the value that leaves

-- the value read last, by slots in the order of reading
abbrev pub last_read : (ℕ → ℤ) → ℤ → List ℕ → ℤ
last_read f z [] = z
last_read f z (i ∷ is) = last_read f (f i) is

last_snoc : (f : ℕ → ℤ) (z : ℤ) (is : List ℕ) (k : ℕ) → last_read f z (is ++ (k ∷ [])) ≡ f k
last_snoc f z [] k = refl
last_snoc f z (i ∷ is) k = last_snoc f (f i) is k

last_full : (n k : ℕ) → k < n → (f : ℕ → ℤ) (z : ℤ) → last_read f z (down_from n n k) ≡ f k
last_full n k q f z =
    let l : n ≤ n = omega arith in
    ap (last_read f z) (down_order n n k l q ∙ (ap reverse (order_full n n k l q refl) ∙ reverse-cons k (staying n n k l q)))
    ∙ last_snoc f z (reverse (staying n n k l q)) k

-- of n slots with h values held: the value read last, where there is no room
abbrev pub leaving_of : (n h : ℕ) → ℤ → ℤ
leaving_of n h z = cond (eqb h n) z (pos 0)

module _ (n h k : ℕ) (s : List ℤ) where
  pub last_leaves : k < n → leaving_of n h (last_read (value_at s) (pos 0) (down_from n h k)) ≡ leaving_of n h (value_at s k)
  last_leaves l = by (eqb h n) refl
    where
      by : (b : Bool) → eqb h n ≡ b → cond b (last_read (value_at s) (pos 0) (down_from n h k)) (pos 0) ≡ cond b (value_at s k) (pos 0)
      by true q = ap (λ m. last_read (value_at s) (pos 0) (down_from n m k)) (eqb-true h n q) ∙ last_full n k l (value_at s) (pos 0)
      by false q = refl

  pub leaving_next : place_fits n h k ≡ true → all is_zero (drop h s) ≡ true → leaving_of n h (value_at s k) ≡ value_at s k
  leaving_next p z = by (eqb h n) refl
    where
      by : (b : Bool) → eqb h n ≡ b → cond b (value_at s k) (pos 0) ≡ value_at s k
      by true q = refl
      by false q =
          let g : get_or (drop h s) 0 (pos 0) ≡ pos 0 = same_number_same (get_or (drop h s) 0 (pos 0)) (pos 0) (all_get_d is_zero (drop h s) 0 (pos 0) refl z) in
          let u : h < n = omega (arith, place_held n h k p, eqb-false h n q) in
          let d : h + 0 ≡ k = omega (arith, place_room_lem n h k p u) in
          sym (ap (value_at s) (sym d) ∙ (sym (get_or-drop h s 0 (pos 0)) ∙ g))

-- ---- the leaders after a value, and the largest

-- those that stay, and the value's slot
abbrev pub leaders_with : List ℤ → ℕ → ℤ → List ℕ → List ℕ
leaders_with s k v ls = keep (stays s k v) ls ++ (k ∷ [])

-- the value at the first of them
abbrev pub top_with : List ℤ → ℕ → ℤ → List ℕ → ℤ
top_with s k v ls = value_at (set s k v) (get_or (leaders_with s k v ls) 0 0)

some_grown : (n h : ℕ) → 1 ≤ n → grown n h ≡ 0 → ⊥
some_grown n h o = by (ltb h n) refl
  where
    by : (b : Bool) → ltb h n ≡ b → cond b (suc h) h ≡ 0 → ⊥
    by true q e = omega arith
    by false q e = omega (arith, ltb-false h n q)

-- total and largest of the values with one more
module _ (b : List ℤ) (kept : PassedIn b) (v : ℤ) where
  abbrev n : ℕ
  n = size_in_value b

  abbrev h : ℕ
  h = held_in b

  abbrev k : ℕ
  k = next_in b

  abbrev s : List ℤ
  s = slots_in b

  pub push_scan : totals (total_in b -ℤ value_at (slots_in b) (next_in b) +ℤ v) (top_with (slots_in b) (next_in b) v (leaders_of (size_in_value b) (held_in b) (next_in b) (slots_in b))) ≡ scan_of (values_with v b)
  push_scan = by (values_with v b) refl
    where
      f : ℕ → ℤ
      f = value_at (set s k v)

      by : (u : List ℤ) → values_with v b ≡ u → totals (total_in b -ℤ value_at s k +ℤ v) (top_with s k v (leaders_of n h k s)) ≡ scan_of u
      by [] e = absurd (some_grown n h kept.one (sym (push_long b kept v) ∙ ap length e))
      by (w ∷ ws) e =
          let t : total_in b -ℤ value_at s k +ℤ v ≡ total (w ∷ ws) = ap (λ x. x -ℤ value_at s k +ℤ v) kept.sum ∙ (sym (push_total b kept v) ∙ ap total e) in
          let o : map f (order n (grown n h) (after n k)) ≡ w ∷ ws = values_order n (grown n h) (after n k) (set s k v) (set_long b kept v) ∙ (sym (push_values b kept v) ∙ e) in
          let m : top_with s k v (leaders_of n h k s) ≡ largest w ws = ap (λ l. f (get_or l 0 0)) (sym (leaders_push n h k (kept_held b kept) (kept_next b kept) s (kept_slots b kept) v)) ∙ (first_value f (order n (grown n h) (after n k)) w ws o).1 in
          (λ i. totals (t i) (m i))
