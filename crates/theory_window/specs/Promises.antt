-- What the calls promise beside their answers: a 42 is given exactly where it is due and changes nothing, and the cells past a window's form are untouched.
use Rattle.std.specs.Prelude.{ℕ, ◌≡◌, refl, ◌⊎◌, Bool, true, false, ◌&&◌, not, List, [], ◌∷◌, length, drop, T, ℤ}
use Rattle.std.proofs.Common.{arith, sym, ap, ◌∙◌, inl, inr, true≢false}
use Rattle.std.specs.Float.Ieee.Bits.{is_false}
use Rattle.meaning.specs.Value.{in_range}
use Rattle.meaning.specs.Calls.{Answer, more, value, refused, table_refused}
use Rattle.meaning_window.specs.Window.{turned_back, scan_of, after, form_length, size_in_value, next_in, values_in, size_fits, well_kept, written, values_with, opens_window, brings_value, brings_refusal, brings_answer}
use Rattle.meaning_window.specs.WindowStatements.{WindowCall, opening, later, calls_window, Reached, is_value, TurnedBackExactly, Untouched, PastUntouched}
use Rattle.theory_window.specs.Lists.{both, and_left, and_right}
use Rattle.theory_window.specs.Kept.{Valid, size_of, past_of}
use Rattle.theory_window.specs.FormByParts.{passed, push_valid}
use Rattle.theory_window.specs.Cases.{opens_not, opens_met, value_not, value_met, state_not, state_met}
use Rattle.theory_window.specs.Reached.{kept_reached, reached_kept, fresh_form}

scan_not : (vs : List ℤ) → scan_of vs ≡ turned_back → ⊥
scan_not [] e = let z : ◌≡◌ {A = ℕ} 0 1 = cc in omega arith
scan_not (v ∷ vs) e = let z : ◌≡◌ {A = ℕ} 0 1 = cc in omega arith

and_no : (a b : Bool) → b ≡ false → (a && b) ≡ false
and_no true b e = e
and_no false b e = refl

-- ---- a 42 changes nothing, nor does a refusal

unchanged : (c : WindowCall) (b : List ℤ) → (calls_window c b).answer ≡ turned_back → (calls_window c b).buffer ≡ b
unchanged (opening n) b e = by (size_fits n (length b)) refl
  where
    by : (t : Bool) → size_fits n (length b) ≡ t → (opens_window n b).buffer ≡ b
    by true q = absurd (scan_not [] (sym (ap (λ o. o.answer) (opens_met n b q)) ∙ e))
    by false q = ap (λ o. o.buffer) (opens_not n b q)
unchanged (later (more moves)) b e = refl
unchanged (later (value v moves)) b e = by (in_range v && well_kept b) refl
  where
    by : (t : Bool) → (in_range v && well_kept b) ≡ t → (brings_value v b).buffer ≡ b
    by true q = absurd (scan_not (values_with v b) (sym (ap (λ o. o.answer) (value_met v b q)) ∙ e))
    by false q = ap (λ o. o.buffer) (value_not v b q)
unchanged (later (refused number tokens)) b e = refl
unchanged (later (table_refused number offset)) b e = refl

refusal_unchanged : (a : Answer) (b : List ℤ) → is_value a ≡ false → (brings_answer a b).buffer ≡ b
refusal_unchanged (more moves) b e = refl
refusal_unchanged (value v moves) b e = absurd (true≢false e)
refusal_unchanged (refused number tokens) b e = refl
refusal_unchanged (table_refused number offset) b e = refl

pub untouched : Untouched
untouched = (unchanged, refusal_unchanged)

-- ---- the cells past the form

past_form : (n k : ℕ) (w : List ℤ) → Valid n k w → (b c : List ℤ) → c ≡ written n k w b → drop (form_length (size_in_value c)) c ≡ drop (form_length (size_in_value c)) b
past_form n k w valid b c e =
    let rest = drop (form_length n) b in
    let s : size_in_value c ≡ n = ap size_in_value e ∙ size_of n k w valid rest in
    (λ i. drop (form_length (s i)) (e i)) ∙ (past_of n k w valid rest ∙ sym (ap (λ m. drop (form_length m) b) s))

pub past_untouched : PastUntouched
past_untouched (opening n) b = by (size_fits n (length b)) refl
  where
    c : List ℤ
    c = (opens_window n b).buffer

    by : (t : Bool) → size_fits n (length b) ≡ t → drop (form_length (size_in_value c)) c ≡ drop (form_length (size_in_value c)) b
    by true q = past_form n 0 [] (fresh_form n b q) b c (ap (λ o. o.buffer) (opens_met n b q))
    by false q = ap (drop (form_length (size_in_value c))) (ap (λ o. o.buffer) (opens_not n b q))
past_untouched (later (more moves)) b = refl
past_untouched (later (value v moves)) b = by (in_range v && well_kept b) refl
  where
    c : List ℤ
    c = (brings_value v b).buffer

    by : (t : Bool) → (in_range v && well_kept b) ≡ t → drop (form_length (size_in_value c)) c ≡ drop (form_length (size_in_value c)) b
    by true q =
        let valid = push_valid b (passed b (and_right (in_range v) (well_kept b) q)) v (and_left (in_range v) (well_kept b) q) in
        past_form (size_in_value b) (after (size_in_value b) (next_in b)) (values_with v b) valid b c (ap (λ o. o.buffer) (value_met v b q))
    by false q = ap (drop (form_length (size_in_value c))) (ap (λ o. o.buffer) (value_not v b q))
past_untouched (later (refused number tokens)) b = refl
past_untouched (later (table_refused number offset)) b = refl

-- ---- 42 exactly where it is due

module _ (b : List ℤ) where
  not_kept : (Reached b → ⊥) → well_kept b ≡ false
  not_kept f = by (well_kept b) refl
    where
      by : (t : Bool) → well_kept b ≡ t → t ≡ false
      by true q = absurd (f (kept_reached b q))
      by false q = refl

  state_exactly : (brings_refusal b ≡ turned_back → T false ⊎ (Reached b → ⊥)) × (T false ⊎ (Reached b → ⊥) → brings_refusal b ≡ turned_back)
  state_exactly = (λ e. inr (λ r. scan_not (values_in b) (sym (state_met b (reached_kept b r)) ∙ e)), back)
    where
      back : T false ⊎ (Reached b → ⊥) → brings_refusal b ≡ turned_back
      back (inl t) = absurd t
      back (inr f) = state_not b (not_kept f)

  value_exactly : (v : ℤ) → ((brings_value v b).answer ≡ turned_back → T (not (in_range v)) ⊎ (Reached b → ⊥)) × (T (not (in_range v)) ⊎ (Reached b → ⊥) → (brings_value v b).answer ≡ turned_back)
  value_exactly v = (there (in_range v) refl, back)
    where
      there : (t : Bool) → in_range v ≡ t → (brings_value v b).answer ≡ turned_back → T (not t) ⊎ (Reached b → ⊥)
      there true q e = inr (λ r. scan_not (values_with v b) (sym (ap (λ o. o.answer) (value_met v b (both q (reached_kept b r)))) ∙ e))
      there false q e = inl tt

      back : T (not (in_range v)) ⊎ (Reached b → ⊥) → (brings_value v b).answer ≡ turned_back
      back (inl t) = ap (λ o. o.answer) (value_not v b (ap (λ x. x && well_kept b) (is_false (in_range v) t)))
      back (inr f) = ap (λ o. o.answer) (value_not v b (and_no (in_range v) (well_kept b) (not_kept f)))

pub turned_back_exactly : TurnedBackExactly
turned_back_exactly (more moves) b = state_exactly b
turned_back_exactly (value v moves) b = value_exactly b v
turned_back_exactly (refused number tokens) b = state_exactly b
turned_back_exactly (table_refused number offset) b = state_exactly b
