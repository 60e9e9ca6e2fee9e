-- Totals: of the values and of the slots, after one more value, and their size.
use Rattle.std.specs.Prelude.{ℕ, zero, suc, ◌<◌, ◌≡◌, refl, length, get_or, take, drop, set, ℤ, pos, ◌+ℤ◌, ◌-ℤ◌}
use Rattle.std.proofs.Common.{sym, ap, ◌∙◌, take-append-drop}
use mathlib.Core.List.{List, [], ◌∷◌, ◌++◌, reverse, reverse-cons}
use Rattle.std.proofs.lemmas.List.{set_split}
use Rattle.std.proofs.Math.Seq.{split_at}
use Rattle.std.proofs.Math.IntN.{+ℤ_idl, +ℤ_idr, +ℤ_assoc, +ℤ_comm, +ℤ-neg_ℤ_cancel}
use Rattle.meaning_window.specs.Window.{total, turned, zeros}

pub total_append : (a b : List ℤ) → total (a ++ b) ≡ total a +ℤ total b
total_append [] b = sym (+ℤ_idl (total b))
total_append (x ∷ a) b = ap (λ t. x +ℤ t) (total_append a b) ∙ sym (+ℤ_assoc x (total a) (total b))

pub total_reverse : (a : List ℤ) → total (reverse a) ≡ total a
total_reverse [] = refl
total_reverse (x ∷ a) =
    ap total (reverse-cons x a)
    ∙ (total_append (reverse a) (x ∷ []) ∙ ((λ i. total_reverse a i +ℤ +ℤ_idr x i) ∙ +ℤ_comm (total a) x))

pub total_turned : (k : ℕ) (s : List ℤ) → total (turned k s) ≡ total s
total_turned k s = total_append (drop k s) (take k s) ∙ (+ℤ_comm (total (drop k s)) (total (take k s)) ∙ (sym (total_append (take k s) (drop k s)) ∙ ap total (take-append-drop k s)))

pub total_zeros : (n : ℕ) → total (zeros n) ≡ pos 0
total_zeros zero = refl
total_zeros (suc n) = +ℤ_idl (total (zeros n)) ∙ total_zeros n

-- the slots without a value count nothing
pub total_values : (m k : ℕ) (s : List ℤ) → take m (turned k s) ≡ zeros m → total (drop m (turned k s)) ≡ total s
total_values m k s z =
    sym (+ℤ_idl (total (drop m (turned k s))))
    ∙ (ap (λ t. t +ℤ total (drop m (turned k s))) (sym (ap total z ∙ total_zeros m))
    ∙ (sym (total_append (take m (turned k s)) (drop m (turned k s)))
    ∙ (ap total (take-append-drop m (turned k s)) ∙ total_turned k s)))

swapped : (p x q v : ℤ) → p +ℤ (v +ℤ q) ≡ (p +ℤ (x +ℤ q)) -ℤ x +ℤ v
swapped p x q v =
    ap (λ t. p +ℤ t) (+ℤ_comm v q)
    ∙ (sym (+ℤ_assoc p q v)
    ∙ ap (λ t. t +ℤ v) (sym (ap (λ t. t -ℤ x) (ap (λ t. p +ℤ t) (+ℤ_comm x q) ∙ sym (+ℤ_assoc p q x)) ∙ +ℤ-neg_ℤ_cancel (p +ℤ q) x)))

-- a value in place of another
pub total_set : (s : List ℤ) (k : ℕ) (v : ℤ) → k < length s → total (set s k v) ≡ total s -ℤ get_or s k (pos 0) +ℤ v
total_set s k v l =
    let old : total s ≡ total (take k s) +ℤ (get_or s k (pos 0) +ℤ total (drop (suc k) s)) = ap total (split_at s k (pos 0) l) ∙ total_append (take k s) (get_or s k (pos 0) ∷ drop (suc k) s) in
    ap total (set_split s k v l)
    ∙ (total_append (take k s) (v ∷ drop (suc k) s)
    ∙ (swapped (total (take k s)) (get_or s k (pos 0)) (total (drop (suc k) s)) v
    ∙ ap (λ t. t -ℤ get_or s k (pos 0) +ℤ v) (sym old)))
