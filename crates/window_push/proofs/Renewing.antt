-- The cells written for one more value are the form of the window with it.
use Prim.Native.Nat.{ℕ, suc, ◌+◌, ◌-◌, ◌<◌, ◌≤◌}
use native.Mathlib.Omega.{arith}
use mathlib.Core.Path.{◌≡◌, ap, ◌∙◌, sym}
use mathlib.Core.Bool.{true}
use mathlib.Core.List.{List, ◌∷◌, ◌++◌, map, append_assoc, append-nil}
use lib.ListN.{length, take, drop, set, length-append, length-take, length-drop, length-map, length-set, length-replicate, drop_of_length-le}
use lib.Seq.{take_all, take_at, drop_at, length-take-le, set-append_left}
use lib.IntN.{ℤ, pos, ◌+ℤ◌, ◌-ℤ◌}
use Rattle.meaning_window.specs.Window.{total, zeros, after, value_at, leaders_of, leader_cells, cells, form_length, size_in_value, held_in, next_in, total_in, slots_in, well_kept, written, values_with}
use Rattle.theory_window.specs.Ring.{grown}
use Rattle.theory_window.specs.Kept.{leaders_few}
use Rattle.theory_window.specs.FormByParts.{passed, kept_held, kept_next, kept_slots, kept_cells, push_form}
use Rattle.window_found.specs.Checks.{new_leaders}
use Rattle.window_push.specs.Parts.{stored}
use Rattle.window_push.specs.Leading.{new_leaders_lem}

-- the leaders' cells written from the front, and the rest cleared
pub laid : (area : List ℤ) (ls : List ℕ) (p q : List ℤ) → length ls ≤ length area → p ≡ map pos (take (length (take (length ls) area)) ls)
    → q ≡ zeros (length (take (length (p ++ drop (length ls) area) - length ls) (drop (length ls) (p ++ drop (length ls) area))))
    → take (length ls) (p ++ drop (length ls) area) ++ (q ++ drop (length (p ++ drop (length ls) area) - length ls) (drop (length ls) (p ++ drop (length ls) area))) ≡ leader_cells (length area) ls
laid area ls p q l ep eq =
    let c : ℕ = length ls in
    let x : List ℤ = p ++ drop (length ls) area in
    let m : length (take c area) ≡ c = length-take-le c area l in
    let e : p ≡ map pos ls = ep ∙ ap (map pos) (ap (λ j. take j ls) m ∙ take_all c ls (omega arith)) in
    let k : length p ≡ c = ap length e ∙ length-map ls pos in
    let w : length x ≡ length area = omega (arith, length-append p (drop c area), length-drop c area) in
    let d : drop c x ≡ drop c area = drop_at p (drop c area) c k in
    let z : length (drop c x) ≡ length area - c = ap length d ∙ length-drop c area in
    let n : length (take (length x - c) (drop c x)) ≡ length area - c = omega (arith, length-take (length x - c) (drop c x)) in
    (λ i. (take_at p (drop c area) c k ∙ e) i ++ ((eq ∙ ap zeros n) i ++ drop_of_length-le (drop c x) {i = length x - c} (omega arith) i))
    ∙ ap (λ y. map pos ls ++ y) (append-nil (zeros (length area - c)))

area_long : (n : ℕ) (ls : List ℕ) → length ls ≤ n → length (leader_cells n ls) ≡ n
area_long n ls l = omega (arith, length-append (map pos ls) (zeros (n - length ls)), length-map ls pos, length-replicate (n - length ls) (pos 0))

-- the numbers and the slot written
stored_cells : (n h k : ℕ) (t : ℤ) (s : List ℤ) (ls : List ℕ) (rest : List ℤ) (h' k' : ℕ) (t' : ℤ) (r slot : ℕ) (v : ℤ) → slot < length s
    → stored (cells n h k t s ls ++ rest) h' k' t' r slot v ≡ (pos n ∷ pos h' ∷ pos k' ∷ t' ∷ pos r ∷ set s slot v) ++ (leader_cells n ls ++ rest)
stored_cells n h k t s ls rest h' k' t' r slot v l =
    let e : 5 + slot ≡ suc (suc (suc (suc (suc slot)))) = omega arith in
    ap (λ j. set (pos n ∷ pos h' ∷ pos k' ∷ t' ∷ pos r ∷ ((s ++ leader_cells n ls) ++ rest)) j v) e
    ∙ ap (λ y. pos n ∷ pos h' ∷ pos k' ∷ t' ∷ pos r ∷ y) (ap (λ y. set y slot v) (append_assoc s (leader_cells n ls) rest) ∙ set-append_left s (leader_cells n ls ++ rest) slot v l)

module _ (b : List ℤ) (kept : well_kept b ≡ true) (v : ℤ) where
  abbrev n : ℕ
  n = size_in_value b

  abbrev h : ℕ
  h = held_in b

  abbrev k : ℕ
  k = next_in b

  abbrev s : List ℤ
  s = slots_in b

  abbrev old : List ℕ
  old = leaders_of (size_in_value b) (held_in b) (next_in b) (slots_in b)

  abbrev new : List ℕ
  new = new_leaders b (size_in_value b) v

  pub renewed : (ls : List ℕ) (r : ℕ) (t : ℤ) (c : List ℤ) → ls ≡ new_leaders b (size_in_value b) v → r ≡ length (new_leaders b (size_in_value b) v) → t ≡ total_in b -ℤ value_at (slots_in b) (next_in b) +ℤ v
      → c ≡ stored b (grown (size_in_value b) (held_in b)) (after (size_in_value b) (next_in b)) t r (next_in b) v
      → (z m j : ℕ) → z ≡ size_in_value b → m ≡ size_in_value b → j ≡ size_in_value b → take (5 + z) c ++ (leader_cells m ls ++ drop j (drop (5 + z) c)) ≡ written (size_in_value b) (after (size_in_value b) (next_in b)) (values_with v b) b
  renewed ls r t c el er et ec z m j ez em ej =
      let rest : List ℤ = drop (form_length n) b in
      let front : List ℤ = pos n ∷ pos (grown n h) ∷ pos (after n k) ∷ t ∷ pos r ∷ set s k v in
      let q : k < length s = omega (arith, kept_next b (passed b kept), kept_slots b (passed b kept)) in
      let e1 : c ≡ front ++ (leader_cells n old ++ rest) = ec ∙ (ap (λ x. stored x (grown n h) (after n k) t r k v) (kept_cells b (passed b kept)) ∙ stored_cells n h k (total s) s old rest (grown n h) (after n k) t r k v q) in
      let f : length front ≡ 5 + n = omega (arith, length-set s k v, kept_slots b (passed b kept)) in
      let a : length (leader_cells n old) ≡ n = area_long n old (leaders_few n h k s (kept_held b (passed b kept))) in
      let e2 : take (5 + z) c ≡ front = ap (λ x. take (5 + x) c) ez ∙ (ap (take (5 + n)) e1 ∙ take_at front (leader_cells n old ++ rest) (5 + n) f) in
      let e3 : leader_cells m ls ≡ leader_cells n new = (λ i. leader_cells (em i) (el i)) in
      let e4 : drop j (drop (5 + z) c) ≡ rest = (λ i. drop (ej i) (drop (5 + ez i) (e1 i))) ∙ (ap (drop n) (drop_at front (leader_cells n old ++ rest) (5 + n) f) ∙ drop_at (leader_cells n old) rest n a) in
      (λ i. e2 i ++ (e3 i ++ e4 i))
      ∙ (ap (λ x. pos n ∷ pos (grown n h) ∷ pos (after n k) ∷ t ∷ pos r ∷ x) (sym (append_assoc (set s k v) (leader_cells n new) rest))
      ∙ ((λ i. (pos n ∷ pos (grown n h) ∷ pos (after n k) ∷ et i ∷ pos (er i) ∷ (set s k v ++ leader_cells n new)) ++ rest)
      ∙ (ap (λ x. cells n (grown n h) (after n k) (total_in b -ℤ value_at s k +ℤ v) (set s k v) x ++ rest) (new_leaders_lem b kept v)
      ∙ ap (λ x. x ++ rest) (sym (push_form b (passed b kept) v)))))
