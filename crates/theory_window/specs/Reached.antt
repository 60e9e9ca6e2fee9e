-- After an opening and any values the answer is that of the last of them by a scan; a buffer is well kept exactly if an opening and values after it leave it.
use Rattle.std.specs.Prelude.{ℕ, zero, suc, ◌+◌, ◌-◌, ◌≤◌, ◌<◌, ◌≡◌, refl, true, ◌&&◌, length, leb, ℤ, pos}
use Rattle.std.proofs.Common.{arith, sym, ◌∙◌, ne_eqb, eq-eqb, lt-ltb, leb-true, le-leb, length-append, length-drop, drop_at, drop-drop}
use Rattle.std.proofs.Math.Path.{ap}
use Rattle.std.proofs.Math.Bool.{cond}
use mathlib.Core.List.{List, [], ◌∷◌, ◌++◌, append_assoc, append-nil}
use Rattle.std.proofs.Math.ListN.{drop}
use Rattle.std.proofs.lemmas.List.{length-replicate, drop-append-le}
use Rattle.std.proofs.Math.Seq.{drop-nil}
use Rattle.meaning.specs.Base.{all}
use Rattle.meaning.specs.Value.{in_range}
use Rattle.meaning_window.specs.Window.{last_of, empty, turned_back, scan_of, zeros, after, form_of, form_length, size_in_value, next_in, values_in, size_fits, well_kept, Outcome, outcome, written, opens_window, values_with, brings_value, window_limit}
use Rattle.meaning_window.specs.WindowStatements.{after_values, Reached}
use Rattle.theory_base.specs.Members.{T→true, true→T}
use Rattle.theory_window.specs.Lists.{and_left, and_right, both, all_append}
use Rattle.theory_window.specs.Kept.{Valid, place_by, zeros_in, size_of, next_of, values_of_lem, past_of, form_kept}
use Rattle.theory_window.specs.FormByParts.{passed, kept_valid, kept_form_lem, push_valid, kept_next}

-- values brought after each other
abbrev pub brings_all : List ℤ → Outcome → Outcome
brings_all [] o = o
brings_all (v ∷ vs) o = brings_all vs (brings_value v o.buffer)

-- the next slot after m values
abbrev pub turns : ℕ → ℕ → ℕ
turns n zero = 0
turns n (suc m) = after n (turns n m)

-- ---- one value

module _ (n k : ℕ) (w : List ℤ) (v : ℤ) (valid : Valid n k w) (r : in_range v ≡ true) (rest : List ℤ) where
  abbrev b : List ℤ
  b = form_of n k w ++ rest

  with : values_with v b ≡ last_of n (w ++ (v ∷ []))
  with = (λ i. last_of (size_of n k w valid rest i) (values_of_lem n k w valid rest i ++ (v ∷ [])))

  pub brings_form : brings_value v (form_of n k w ++ rest) ≡ outcome (scan_of (last_of n (w ++ (v ∷ [])))) (form_of n (after n k) (last_of n (w ++ (v ∷ []))) ++ rest)
  unfolding brings_value
  brings_form =
      ap (λ t. cond t (outcome (scan_of (values_with v b)) (written (size_in_value b) (after (size_in_value b) (next_in b)) (values_with v b) b)) (outcome turned_back b)) (both r (form_kept n k w valid rest))
      ∙ ((λ i. outcome (scan_of (with i)) (form_of (size_of n k w valid rest i) (after (size_of n k w valid rest i) (next_of n k w valid rest i)) (with i) ++ drop (form_length (size_of n k w valid rest i)) b))
      ∙ ap (λ l. outcome (scan_of (last_of n (w ++ (v ∷ [])))) (form_of n (after n k) (last_of n (w ++ (v ∷ []))) ++ l)) (past_of n k w valid rest))

  pub brings_valid : Valid n (after n k) (last_of n (w ++ (v ∷ [])))
  brings_valid = moved (size_of n k w valid rest) (next_of n k w valid rest) with (push_valid b (passed b (form_kept n k w valid rest)) v r)
    where
      moved : {m j : ℕ} {u : List ℤ} {m' j' : ℕ} {u' : List ℤ} → m ≡ m' → j ≡ j' → u ≡ u' → Valid m (after m j) u → Valid m' (after m' j') u'
      moved p q t x = rw (← p, ← q, ← t) x

-- ---- all values

-- the last n of the last n and one more are the last n of all
last_last : (n : ℕ) (us : List ℤ) (v : ℤ) → last_of n (last_of n us ++ (v ∷ [])) ≡ last_of n (us ++ (v ∷ []))
last_last n us v =
    let m : ℕ = length us - n in
    let a : length (drop (length us - n) us) ≡ length us - (length us - n) = length-drop (length us - n) us in
    let c : length (drop (length us - n) us ++ (v ∷ [])) ≡ suc (length us - (length us - n)) = omega (arith, length-append (drop (length us - n) us) (v ∷ [])) in
    let d : length (us ++ (v ∷ [])) ≡ suc (length us) = omega (arith, length-append us (v ∷ [])) in
    let e : (length us - n) + (length (drop (length us - n) us ++ (v ∷ [])) - n) ≡ length (us ++ (v ∷ [])) - n = omega arith in
    ap (drop (length (drop (length us - n) us ++ (v ∷ [])) - n)) (sym (drop-append-le (length us - n) us (v ∷ []) (omega arith)))
    ∙ (drop-drop (length (drop (length us - n) us ++ (v ∷ [])) - n) (length us - n) (us ++ (v ∷ [])) ∙ ap (λ j. drop j (us ++ (v ∷ []))) e)

-- us have been brought
module _ (n : ℕ) (rest : List ℤ) where
  abbrev pub left : List ℤ → Outcome
  left us = outcome (scan_of (last_of n us)) (form_of n (turns n (length us)) (last_of n us) ++ rest)

  pub brings_one : (us : List ℤ) (v : ℤ) → Valid n (turns n (length us)) (last_of n us) → in_range v ≡ true
      → (brings_value v (left us).buffer ≡ left (us ++ (v ∷ []))) × Valid n (turns n (length (us ++ (v ∷ [])))) (last_of n (us ++ (v ∷ [])))
  brings_one us v valid q =
      let m : length (us ++ (v ∷ [])) ≡ suc (length us) = omega (arith, length-append us (v ∷ [])) in
      let t : after n (turns n (length us)) ≡ turns n (length (us ++ (v ∷ []))) = ap (turns n) (sym m) in
      (brings_form n (turns n (length us)) (last_of n us) v valid q rest ∙ (λ i. outcome (scan_of (last_last n us v i)) (form_of n (t i) (last_last n us v i) ++ rest)), rw (← t, ← last_last n us v) (brings_valid n (turns n (length us)) (last_of n us) v valid q rest))

  pub brings_more : (us vs : List ℤ) → Valid n (turns n (length us)) (last_of n us) → all in_range vs ≡ true
      → (brings_all vs (left us) ≡ left (us ++ vs)) × Valid n (turns n (length (us ++ vs))) (last_of n (us ++ vs))
  brings_more us [] valid r = rw (append-nil us) (refl, valid)
  brings_more us (v ∷ vs) valid r =
      let one = brings_one us v valid (and_left (in_range v) (all in_range vs) r) in
      let more = brings_more (us ++ (v ∷ [])) vs one.1 (and_right (in_range v) (all in_range vs) r) in
      let a : us ++ (v ∷ []) ++ vs ≡ us ++ (v ∷ vs) = append_assoc us (v ∷ []) vs in
      (ap (brings_all vs) one.0 ∙ (more.0 ∙ ap left a), rw a at more.1)

module _ (n : ℕ) (start : List ℤ) (fits : size_fits n (length start) ≡ true) where
  pub opened : opens_window n start ≡ left n (drop (form_length n) start) []
  unfolding opens_window
  opened = ap (λ t. cond t (outcome empty (written n 0 [] start)) (outcome turned_back start)) fits ∙ ap (λ w. outcome (scan_of w) (form_of n 0 w ++ drop (form_length n) start)) (sym (drop-nil (0 - n)))

  pub fresh : Valid n 0 (last_of n [])
  fresh =
      let o : 1 ≤ n = leb-true 1 n (and_left (leb 1 n) (leb n window_limit && leb (form_length n) (length start)) fits) in
      let m : n ≤ window_limit = leb-true n window_limit (and_left (leb n window_limit) (leb (form_length n) (length start)) (and_right (leb 1 n) (leb n window_limit && leb (form_length n) (length start)) fits)) in
      rw (drop-nil {A = ℤ} (0 - n)) record { one = o; most = m; place = both (le-leb 0 n (omega arith)) (both (lt-ltb 0 n (omega arith)) (rw (ne_eqb 0 n (λ z. omega arith)) (eq-eqb 0 0 refl))); ranged = refl }

  pub fresh_form : Valid n 0 []
  fresh_form = rw (drop-nil {A = ℤ} (0 - n)) at fresh

  -- ★ (k): after an opening and any values, total and largest are those of the last n values by a scan, and the buffer is the form of these
  pub window_scan : (vs : List ℤ) → all in_range vs ≡ true
      → brings_all vs (opens_window n start) ≡ outcome (scan_of (last_of n vs)) (written n (turns n (length vs)) (last_of n vs) start)
  window_scan vs r = ap (brings_all vs) opened ∙ (brings_more n (drop (form_length n) start) [] vs fresh r).0

  pub window_valid : (vs : List ℤ) → all in_range vs ≡ true → Valid n (turns n (length vs)) (last_of n vs)
  window_valid vs r = (brings_more n (drop (form_length n) start) [] vs fresh r).1

-- ---- the check accepts exactly what can be reached

-- the buffer that the values leave
after_all_lem : (vs : List ℤ) (o : Outcome) → (brings_all vs o).buffer ≡ after_values vs o.buffer
after_all_lem [] o = refl
after_all_lem (v ∷ vs) o = after_all_lem vs (brings_value v o.buffer)

pub reached_kept : (b : List ℤ) → Reached b → well_kept b ≡ true
reached_kept b x =
    let n = x.size in
    let vs = x.values in
    let f : size_fits x.size (length x.start) ≡ true = T→true (size_fits n (length x.start)) x.fits in
    let r : all in_range x.values ≡ true = T→true (all in_range vs) x.ranged in
    ap well_kept (x.leaves ∙ (sym (after_all_lem vs (opens_window n x.start)) ∙ ap (λ o. o.buffer) (window_scan n x.start f vs r)))
    ∙ form_kept n (turns n (length vs)) (last_of n vs) (window_valid n x.start f vs r) (drop (form_length n) x.start)

turns_up : (n m : ℕ) → m < n → turns n m ≡ m
turns_up n zero l = refl
turns_up n (suc m) l = ap (after n) (turns_up n m (omega arith)) ∙ rw (ne_eqb (suc m) n (λ z. omega arith)) refl

turns_all : (n : ℕ) → 1 ≤ n → turns n n ≡ 0
turns_all zero l = absurd (omega arith)
turns_all (suc m) l = ap (after (suc m)) (turns_up (suc m) m (omega arith)) ∙ rw (eq-eqb (suc m) (suc m) refl) refl

turns_round : (n k : ℕ) → 1 ≤ n → k < n → turns n (k + n) ≡ k
turns_round n zero o l = let e : 0 + n ≡ n = omega arith in ap (turns n) e ∙ turns_all n o
turns_round n (suc k) o l =
    let e : suc k + n ≡ suc (k + n) = omega arith in
    ap (turns n) e ∙ (ap (after n) (turns_round n k o (omega arith)) ∙ rw (ne_eqb (suc k) n (λ z. omega arith)) refl)

-- values that leave the window w with the next slot k
pub record Leave (n k : ℕ) (w : List ℤ) : Type 0 where
  pub values : List ℤ
  pub ranged : all in_range values ≡ true
  pub slot : turns n (length values) ≡ k
  pub last : last_of n values ≡ w

leave : (n k : ℕ) (w : List ℤ) → Valid n k w → k < n → Leave n k w
leave n k w valid l = place_by n (length w) k valid.place (Leave n k w)
    (λ e.
    let m : length (zeros k ++ w) ≡ k + n = omega (arith, length-append (zeros k) w, length-replicate k (pos 0)) in
    let d : length (zeros k ++ w) - n ≡ k = omega arith in
    record { values = zeros k ++ w; ranged = all_append in_range (zeros k) w (zeros_in k) valid.ranged; slot = ap (turns n) m ∙ turns_round n k valid.one l; last = ap (λ j. drop j (zeros k ++ w)) d ∙ drop_at (zeros k) w k (length-replicate k (pos 0)) })
    (λ u q.
    let d : length w - n ≡ 0 = omega arith in
    record { values = w; ranged = valid.ranged; slot = turns_up n (length w) u ∙ sym q; last = ap (λ j. drop j w) d })

pub kept_reached : (b : List ℤ) → well_kept b ≡ true → Reached b
kept_reached b e =
    let n : ℕ = size_in_value b in
    let p = passed b e in
    let f : size_fits (size_in_value b) (length b) ≡ true = both (le-leb 1 n p.one) (both (le-leb n window_limit p.most) (le-leb (form_length n) (length b) p.long)) in
    let x : Leave (size_in_value b) (next_in b) (values_in b) = leave n (next_in b) (values_in b) (kept_valid b p) (kept_next b p) in
    record {
      size = n;
      start = b;
      values = x.values;
      fits = true→T (size_fits (size_in_value b) (length b)) f;
      ranged = true→T (all in_range x.values) x.ranged;
      leaves = kept_form_lem b p ∙ sym (sym (after_all_lem x.values (opens_window n b)) ∙ (ap (λ o. o.buffer) (window_scan n b f x.values x.ranged) ∙ (λ i. written n (x.slot i) (x.last i) b)));
    }
