-- The planned fields written one after the other.
use Prim.Native.Nat.{ℕ, zero, suc, ◌+◌, ◌-◌, ◌≤◌, ◌<◌}
use native.Mathlib.Omega.{arith}
use native.Mathlib.Numerals.{add-one}
use mathlib.Core.Path.{◌≡◌, refl, sym, ap, ap₂, ◌∙◌}
use mathlib.Core.List.{List, [], ◌∷◌, ◌++◌, append_assoc, append-nil}
use lib.ListN.{length, get_or, take, drop, length-append, length-take, length-drop, take-append-drop}
use lib.Seq.{paste, length-take-le, take-length, take-suc, take-append_seam, drop-append-add, drop-drop, take_all}
use Rattle.meaning.specs.PublicCalls.{written}
use Rattle.theory_order.specs.FieldWalk.{size_at, field_at}
use Rattle.theory_order.specs.Planning.{copied, copied_append}

-- ---- the fields

copied_one : (t : List ℕ) (o : ℕ) → copied t (o ∷ []) ≡ field_at t o
unfolding copied
copied_one t o = append-nil (field_at t o)

pub copied_more : (t order : List ℕ) (i : ℕ) → i < length order → copied t (take (i + 1) order) ≡ copied t (take i order) ++ field_at t (get_or order i 0)
copied_more t order i l = ap (λ k. copied t (take k order)) (add-one i) ∙ (ap (copied t) (take-suc order i 0 l) ∙ (copied_append t (take i order) (get_or order i 0 ∷ []) ∙ ap (λ z. copied t (take i order) ++ z) (copied_one t (get_or order i 0))))

pub copied_none : (t : List ℕ) → copied t [] ≡ []
unfolding copied
copied_none t = refl

pub field_short : (t : List ℕ) (at : ℕ) → length (field_at t at) ≤ length t
unfolding field_at
field_short t at = omega (arith, length-take (3 + size_at t at) (drop at t), length-drop at t)

copied_length : (t order : List ℕ) (i : ℕ) → i < length order → length (copied t (take (i + 1) order)) ≡ length (copied t (take i order)) + length (field_at t (get_or order i 0))
copied_length t order i l = ap length (copied_more t order i l) ∙ length-append (copied t (take i order)) (field_at t (get_or order i 0))

module _ (t order : List ℕ) (i at : ℕ) (field : List ℕ) (l : i < length order) (is_at : at ≡ get_or order i 0) (is_field_value : field ≡ field_at t at) where
  is_field : field ≡ field_at t (get_or order i 0)
  is_field = is_field_value ∙ ap (field_at t) is_at

  pub length_more : (sum : ℕ) → sum ≡ length (copied t (take i order)) → sum + length field ≡ length (copied t (take (i + 1) order))
  length_more sum e = ap₂ ◌+◌ e (ap length is_field) ∙ sym (copied_length t order i l)

  pub length_small : length field ≤ length t
  length_small = omega (arith, ap length is_field, field_short t (get_or order i 0))

-- the first fields are never longer than all
copied_within : (t order : List ℕ) (i k : ℕ) → i + k ≤ length order → length (copied t (take i order)) ≤ length (copied t (take (i + k) order))
copied_within t order i zero l = let e : i + 0 ≡ i = omega arith in omega (arith, ap (λ z. length (copied t (take z order))) e)
copied_within t order i (suc k) l =
    let e : i + suc k ≡ i + k + 1 = omega arith in
    omega (arith, copied_within t order i k (omega arith), ap (λ z. length (copied t (take z order))) e, copied_length t order (i + k) (omega arith))

-- ---- written so far

-- what is pasted behind what is written
pub written_more : (w d f : List ℕ) (at : ℕ) → at ≡ length w → paste (written w d) at f (length f) ≡ written (w ++ f) d
written_more w d f at e =
    let x : take (length w) (written w d) ≡ w = take-append_seam w (drop (length w) d) in
    let y : drop (length w + length f) (written w d) ≡ drop (length (w ++ f)) d = drop-append-add w (drop (length w) d) (length f) ∙ (drop-drop (length f) (length w) d ∙ ap (λ k. drop k d) (sym (length-append w f))) in
    ap (λ k. paste (written w d) k f (length f)) e
    ∙ (ap₂ (λ u v. (u ++ v) ++ drop (length w + length f) (written w d)) x (take-length f) ∙ ap (λ z. (w ++ f) ++ z) y)

module _ (t order out : List ℕ) (to : ℕ) where
  -- the first i fields stand in the buffer
  pub record Filled (i at : ℕ) (now : List ℕ) : Type 0 where
    pub place : at ≡ to + length (copied t (take i order))
    pub is_written : now ≡ written (take to out ++ copied t (take i order)) out

  pub filled_start : to ≤ length out → Filled 0 to out
  filled_start h =
      let n : copied t (take 0 order) ≡ [] = copied_none t in
      let l : length (take to out) ≡ to = length-take-le to out h in
      record {
        place = omega (arith, ap length n);
        is_written = sym (ap (λ z. written (take to out ++ z) out) n ∙ (ap (λ z. written z out) (append-nil (take to out)) ∙ (ap (λ k. take to out ++ drop k out) l ∙ take-append-drop to out)));
      }

  module _ (h : to + length (copied t order) ≤ length out) (i at : ℕ) (buffer : List ℕ) (f : Filled i at buffer) where
    so_far_long : length (take to out ++ copied t (take i order)) ≡ at
    so_far_long = length-append (take to out) (copied t (take i order)) ∙ omega (arith, f.place, length-take-le to out (omega arith))

    module _ (l : i < length order) (offset : ℕ) (field : List ℕ) (is_at : offset ≡ get_or order i 0) (is_field_value : field ≡ field_at t offset) where
      pub filled_room : at + length field ≤ length out
      filled_room =
          let k : i + 1 + (length order - (i + 1)) ≡ length order = omega arith in
          let a : take (i + 1 + (length order - (i + 1))) order ≡ order = ap (λ z. take z order) k ∙ take-length order in
          omega (arith, h, f.place, length_more t order i offset field l is_at is_field_value (length (copied t (take i order))) refl, copied_within t order (i + 1) (length order - (i + 1)) (omega arith), ap (λ z. length (copied t z)) a)

      pub filled_more : (buffer' : List ℕ) → buffer' ≡ paste buffer at field (length field) → Filled (i + 1) (at + length field) buffer'
      filled_more buffer' e =
          let m : copied t (take (i + 1) order) ≡ copied t (take i order) ++ field = copied_more t order i l ∙ ap (λ z. copied t (take i order) ++ z) (ap (field_at t) (sym is_at) ∙ sym is_field_value) in
          record {
            place = omega (arith, f.place, length_more t order i offset field l is_at is_field_value (length (copied t (take i order))) refl);
            is_written =
                e
                ∙ (ap (λ z. paste z at field (length field)) f.is_written
                ∙ (written_more (take to out ++ copied t (take i order)) out field at (sym so_far_long)
                ∙ ap (λ z. written z out) (append_assoc (take to out) (copied t (take i order)) field ∙ ap (λ z. take to out ++ z) (sym m))));
          }

  pub filled_end : (i at : ℕ) (buffer : List ℕ) → Filled i at buffer → length order ≤ i → buffer ≡ written (take to out ++ copied t order) out
  filled_end i at buffer f h = f.is_written ∙ ap (λ z. written (take to out ++ copied t z) out) (take_all i order h)
