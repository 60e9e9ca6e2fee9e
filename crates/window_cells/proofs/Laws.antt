-- Stores from the front, a cell a turn, and small numbers.
use Prim.Native.Nat.{ℕ, suc, ◌+◌, ◌<◌, ◌≤◌}
use native.Mathlib.Numerals.{add-one}
use native.Mathlib.Omega.{arith}
use mathlib.Core.Path.{◌≡◌, refl, sym, ap, ◌∙◌}
use mathlib.Core.Bool.{Bool, true, false, ◌&&◌}
use mathlib.Core.List.{List, [], ◌∷◌, ◌++◌, map, map-append}
use borrow.Author.Tests.{leb-true, le-leb}
use lib.IntN.{ℤ, pos, negsuc, nat_abs}
use lib.Signed.{le_z, non_neg}
use lib.Dec.{T, leb}
use lib.ListN.{length, get_or, take, drop, set, length-map}
use lib.Seq.{drop-cons, set_at, append_snoc, take-suc, length-take-le}
use Rattle.std.specs.List.{list_all}
use Rattle.meaning.specs.Base.{all}
use Rattle.meaning_window.specs.Window.{small, window_limit, past_window}
use Rattle.theory_window.specs.Lists.{and_right}
use Rattle.theory_base.specs.Members.{right_false}

-- ---- stores from the front

store : (front d : List ℤ) (i : ℕ) (v : ℤ) → length front ≡ i → i < length d → set (front ++ drop i d) i v ≡ front ++ (v ∷ []) ++ drop (i + 1) d
store front d i v e l = rw (add-one i, drop-cons d i (pos 0) l, set_at front (get_or d i (pos 0)) (drop (suc i) d) v i e) (sym (append_snoc front v (drop (suc i) d)))

pub put_turn : (d cells : List ℤ) (f : List ℕ) (i : ℕ) (v : ℤ) → i < length d → i < length f → v ≡ pos (get_or f i 0) → cells ≡ map pos (take i f) ++ drop i d → set cells i v ≡ map pos (take (i + 1) f) ++ drop (i + 1) d
put_turn d cells f i v l m e q =
    let g : take (i + 1) f ≡ take i f ++ (get_or f i 0 ∷ []) = rw (add-one i) (take-suc f i 0 m) in
    let t : map pos (take i f) ++ (pos (get_or f i 0) ∷ []) ≡ map pos (take (i + 1) f) = sym (ap (map pos) g ∙ map-append pos (take i f) (get_or f i 0 ∷ [])) in
    let n : length (map pos (take i f)) ≡ i = length-map (take i f) pos ∙ length-take-le i f (omega arith) in
    (λ j. set (q j) i (e j)) ∙ (store (map pos (take i f)) d i (pos (get_or f i 0)) n l ∙ ap (λ x. x ++ drop (i + 1) d) t)

-- ---- tests

pub list_all_all : {A : Type 0} (t : A → Bool) (xs : List A) → list_all t xs ≡ all t xs
list_all_all t [] = refl
list_all_all t (x ∷ xs) = ap (λ b. t x && b) (list_all_all t xs)

-- ---- small numbers

pub small_in : (v : ℤ) → (le_z (pos 0) v && le_z v (pos window_limit)) ≡ true → T (non_neg v) × (nat_abs v ≡ small v) × (nat_abs v ≤ window_limit)
small_in (pos m) e = (tt, rw (and_right (leb 0 m) (leb m window_limit) e) refl, leb-true m window_limit (and_right (leb 0 m) (leb m window_limit) e))
small_in (negsuc m) e = absurd (let z : ◌≡◌ {A = ℕ} 0 1 = cc in omega arith)

pub small_out : (v : ℤ) → (le_z (pos 0) v && le_z v (pos window_limit)) ≡ false → past_window ≡ small v
small_out (pos m) e = rw (right_false (leb 0 m) (leb m window_limit) (le-leb 0 m (omega arith)) e) refl
small_out (negsuc m) e = refl
