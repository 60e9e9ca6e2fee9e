-- What the calls answer and leave, case by case.
use Prim.Native.Nat.{ℕ, suc, ◌+◌, ◌-◌, ◌*◌}
use native.Mathlib.Omega.{arith}
use mathlib.Core.Path.{◌≡◌, sym, ap, ◌∙◌}
use mathlib.Core.Bool.{true}
use mathlib.Core.List.{List, [], ◌∷◌, ◌++◌, append-nil}
use lib.ListN.{length, drop, set, length-replicate, drop_of_length-le, replicate-append-replicate}
use lib.Seq.{take_all}
use lib.IntN.{ℤ, pos}
use Rattle.meaning.specs.Value.{in_range}
use Rattle.meaning_window.specs.Window.{totals, empty, turned, order, zeros, slots_of, after, leads, leaders_of, leader_cells, value_at, form_of, size_in_value, held_in, next_in, slots_in, size_fits, well_kept, outcome, written, opens_window, brings_value, values_with}
use Rattle.theory_window.specs.Lists.{both}
use Rattle.theory_window.specs.Ring.{length_order}
use Rattle.theory_window.specs.Cases.{opens_met, value_met}
use Rattle.theory_window.specs.FormByParts.{passed}
use Rattle.theory_window.specs.Next.{top_with, push_scan}
use Rattle.window_found.specs.Checks.{found_in}
use Rattle.theory_base.specs.Members.{no_elements}

-- ---- opening

form_empty : (n : ℕ) → form_of n 0 [] ≡ pos n ∷ zeros (4 + 2 * n)
form_empty n =
    let o : order n 0 0 ≡ [] = no_elements (order n 0 0) (length_order n 0 0 (omega arith)) in
    let z : n - 0 ≡ n = omega arith in
    let s : slots_of n 0 [] ≡ zeros n = ap (λ m. turned m (zeros m ++ [])) z ∙ (ap (turned n) (append-nil (zeros n)) ∙ whole) in
    let m : 4 + 2 * n ≡ suc (suc (suc (suc (n + n)))) = omega arith in
    ap (λ is. pos n ∷ pos 0 ∷ pos 0 ∷ pos 0 ∷ pos (length (leads (value_at (slots_of n 0 [])) is)) ∷ (slots_of n 0 [] ++ leader_cells n (leads (value_at (slots_of n 0 [])) is))) o
    ∙ ((λ i. pos n ∷ pos 0 ∷ pos 0 ∷ pos 0 ∷ pos 0 ∷ (s i ++ zeros (z i)))
    ∙ (ap (λ l. pos n ∷ pos 0 ∷ pos 0 ∷ pos 0 ∷ pos 0 ∷ l) (replicate-append-replicate n n (pos 0)) ∙ ap (λ j. pos n ∷ zeros j) (sym m)))
  where
    whole : turned n (zeros n) ≡ zeros n
    whole = (λ i. drop_of_length-le (zeros n) {i = n} (omega (arith, length-replicate n (pos 0))) i ++ take_all n (zeros n) (omega (arith, length-replicate n (pos 0))) i)

module _ (n : ℕ) (b : List ℤ) where
  pub opens_cleared : size_fits n (length b) ≡ true → (cleared : List ℤ) → cleared ≡ zeros (5 + 2 * n) → (v : ℤ) → v ≡ pos n → outcome empty (set (cleared ++ drop (5 + 2 * n) b) 0 v) ≡ opens_window n b
  opens_cleared t cleared e v d =
      let m : 5 + 2 * n ≡ suc (4 + 2 * n) = omega arith in
      (λ i. outcome empty (set (e i ++ drop (5 + 2 * n) b) 0 (d i)))
      ∙ (ap (λ j. outcome empty (set (zeros j ++ drop (5 + 2 * n) b) 0 (pos n))) m
      ∙ (ap (λ l. outcome empty (l ++ drop (5 + 2 * n) b)) (sym (form_empty n))
      ∙ sym (opens_met n b t)))

-- ---- one more value

-- total and largest as the check has found them, and the buffer written
pub pushed : (b : List ℤ) → well_kept b ≡ true → (v : ℤ) → in_range v ≡ true → (c : List ℤ) → c ≡ written (size_in_value b) (after (size_in_value b) (next_in b)) (values_with v b) b
    → (t top : ℤ) → t ≡ (found_in b v).sum → top ≡ (found_in b v).top → outcome (totals t top) c ≡ brings_value v b
pushed b kept v r c e t top et em =
    let n = size_in_value b in
    let k = after n (next_in b) in
    let m : top ≡ top_with (slots_in b) (next_in b) v (leaders_of n (held_in b) (next_in b) (slots_in b)) = em ∙ ap (top_with (slots_in b) (next_in b) v) (passed b kept).leaders in
    (λ i. outcome (totals (et i) (m i)) (e i))
    ∙ (ap (λ a. outcome a (written n k (values_with v b) b)) (push_scan b (passed b kept) v)
    ∙ sym (value_met v b (both r kept)))
