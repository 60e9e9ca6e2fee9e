-- The walk over the fields, one at a time.
use Prim.Native.Nat.{ℕ, zero, suc, ◌+◌, ◌-◌, ◌≤◌, ◌<◌}
use native.Mathlib.Omega.{arith}
use mathlib.Core.Path.{◌≡◌, refl, sym, ap, ap₂, ◌∙◌}
use mathlib.Core.Bool.{Bool, true, false}
use mathlib.Core.List.{List, [], ◌∷◌}
use borrow.Author.Tests.{eq-eqb, ne_eqb, ltb-true, ltb-false, eqb-true, eqb-false}
use lib.Dec.{eqb, ltb}
use lib.ListN.{length, get_or}
use Rattle.meaning.specs.Base.{cons_if}
use Rattle.meaning.specs.Table.{byte}
use Rattle.table_fields.specs.Field.{Whole, Short, length_at}
use Rattle.table_fields.proofs.Demands.{below_yes, below_no}
use Rattle.table_reader.specs.Fields.{field_at, fields_from, productions_in, productions_from, nth_production, past}

-- ---- the offset after a field

module _ (t : List ℕ) (at : ℕ) where
  pub past_short : Short t at → length t ≡ past t at
  unfolding past
  past_short h = below_yes _ _ _ _ h refl

  pub past_whole : (size : ℕ) → Whole t at size → at + 3 + size ≡ past t at
  unfolding past
  past_whole size w = below_no _ _ _ _ (omega (arith, w.size_is, w.inside)) (omega (arith, w.size_is))

  pub past_end : length t ≤ at → length t ≡ past t at
  past_end h = past_short (omega arith)

  past_on : at < length t → at < past t at
  past_on h = go (ltb (length t) (at + 3 + length_at t at)) refl
    where
      go : (b : Bool) → ltb (length t) (at + 3 + length_at t at) ≡ b → at < past t at
      go true e = omega (arith, past_short (ltb-true (length t) (at + 3 + length_at t at) e))
      go false e = omega (arith, past_whole (length_at t at) (record { size_is = refl; inside = ltb-false (length t) (at + 3 + length_at t at) e }))

-- ---- the fields from an offset on

module _ (t : List ℕ) where
  nothing_left : (n at : ℕ) → length t ≤ at → fields_from n t at ≡ []
  nothing_left zero at h = refl
  nothing_left (suc n) at h = sym (below_no _ _ _ _ h refl)

  one_field : (n at : ℕ) → at < length t → fields_from (suc n) t at ≡ field_at t at ∷ fields_from n t (at + 3 + length_at t at)
  one_field n at h = sym (below_yes _ _ _ _ h refl)

  -- any two numbers above the bytes left give the same
  enough : (n m at : ℕ) → length t - at < n → length t - at < m → fields_from n t at ≡ fields_from m t at
  enough zero m at h k = absurd (omega arith)
  enough (suc n) zero at h k = absurd (omega arith)
  enough (suc n) (suc m) at h k = go (ltb at (length t)) refl (λ l. enough n m (at + 3 + length_at t at) (omega arith) (omega arith))
    where
      go : (b : Bool) → ltb at (length t) ≡ b → (at < length t → fields_from n t (at + 3 + length_at t at) ≡ fields_from m t (at + 3 + length_at t at)) → fields_from (suc n) t at ≡ fields_from (suc m) t at
      go false e later = nothing_left (suc n) at (ltb-false at (length t) e) ∙ sym (nothing_left (suc m) at (ltb-false at (length t) e))
      go true e later = let l = ltb-true at (length t) e in one_field n at l ∙ ap (λ fs. field_at t at ∷ fs) (later l) ∙ sym (one_field m at l)

  step : (at : ℕ) → at < length t → fields_from (suc (length t - at)) t at ≡ field_at t at ∷ fields_from (suc (length t - past t at)) t (past t at)
  step at h = one_field (length t - at) at h ∙ ap (λ fs. field_at t at ∷ fs) (go (ltb (length t) (at + 3 + length_at t at)) refl)
    where
      go : (b : Bool) → ltb (length t) (at + 3 + length_at t at) ≡ b → fields_from (length t - at) t (at + 3 + length_at t at) ≡ fields_from (suc (length t - past t at)) t (past t at)
      go true e =
          let end : ℕ = at + 3 + length_at t at in
          let l = ltb-true (length t) end e in
          nothing_left (length t - at) end (omega arith) ∙ sym (nothing_left (suc (length t - past t at)) (past t at) (omega (arith, past_short t at l)))
      go false e =
          let end : ℕ = at + 3 + length_at t at in
          let q : end ≡ past t at = past_whole t at (length_at t at) (record { size_is = refl; inside = ltb-false (length t) end e }) in
          enough (length t - at) (suc (length t - end)) end (omega arith) (omega arith) ∙ ap (λ (i : ℕ). fields_from (suc (length t - i)) t i) q

-- ---- the tag 3 fields

module _ (t : List ℕ) (at : ℕ) where
  pub none_left : length t ≤ at → productions_from t at ≡ []
  unfolding productions_from
  none_left h = ap productions_in (nothing_left t (suc (length t - at)) at h)

  kept : at < length t → (b : Bool) → eqb (byte t at) 3 ≡ b → productions_from t at ≡ cons_if b at (productions_from t (past t at))
  unfolding productions_from
  kept h true e = ap productions_in (step t at h) ∙ rw e refl
  kept h false e = ap productions_in (step t at h) ∙ rw e refl

  pub here : at < length t → byte t at ≡ 3 → productions_from t at ≡ at ∷ productions_from t (past t at)
  here h e = kept h true (eq-eqb (byte t at) 3 e)

  pub not_here : at < length t → (byte t at ≡ 3 → ⊥) → productions_from t at ≡ productions_from t (past t at)
  not_here h e = kept h false (ne_eqb (byte t at) 3 e)

-- ---- the first of them after n others, where r is the offset after the field

module _ (t : List ℕ) (at n : ℕ) where
  pub found_none : length t ≤ at → nth_production t at n ≡ length t
  found_none h = ap (λ xs. get_or xs n (length t)) (none_left t at h)

  pub found_here : at < length t → byte t at ≡ 3 → n ≡ 0 → nth_production t at n ≡ at
  found_here h e z = ap₂ (λ xs (m : ℕ). get_or xs m (length t)) (here t at h e) z

module _ (t : List ℕ) (at r : ℕ) (after : r ≡ past t at) (inside : at < length t) where
  pub less_left : length t - r < length t - at
  less_left = omega (arith, after, past_on t at inside)

module _ (t : List ℕ) (at n r : ℕ) (after : r ≡ past t at) (inside : at < length t) where
  pub found_later : (byte t at ≡ 3 → ⊥) → nth_production t at n ≡ nth_production t r n
  found_later e = ap (λ xs. get_or xs n (length t)) (not_here t at inside e) ∙ ap (λ (i : ℕ). nth_production t i n) (sym after)

  pub found_next : byte t at ≡ 3 → (m : ℕ) → n ≡ suc m → nth_production t at n ≡ nth_production t r m
  found_next e m q = ap₂ (λ xs (k : ℕ). get_or xs k (length t)) (here t at inside e) q ∙ ap (λ (i : ℕ). nth_production t i m) (sym after)

-- ---- the one after that

module _ (t : List ℕ) where
  abbrev Follows : ℕ → ℕ → Type 0
  Follows at n = nth_production t (past t (nth_production t at n)) 0 ≡ nth_production t at (suc n)

  abbrev past_found : ℕ → ℕ
  past_found i = nth_production t (past t i) 0

  follows_none : (at n : ℕ) → length t ≤ at → Follows at n
  follows_none at n h =
      let e : past t (length t) ≡ length t = sym (past_end t (length t) (omega arith)) in
      ap past_found (found_none t at n h) ∙ ap (λ (i : ℕ). nth_production t i 0) e ∙ found_none t (length t) 0 (omega arith) ∙ sym (found_none t at (suc n) h)

  module _ (at : ℕ) (inside : at < length t) where
    follows_later : (byte t at ≡ 3 → ⊥) → (n : ℕ) → Follows (past t at) n → Follows at n
    follows_later e n h = ap past_found (found_later t at n (past t at) refl inside e) ∙ h ∙ sym (found_later t at (suc n) (past t at) refl inside e)

    follows_here : byte t at ≡ 3 → ((n : ℕ) → Follows (past t at) n) → (n : ℕ) → Follows at n
    follows_here e h zero = ap past_found (found_here t at 0 inside e refl) ∙ sym (found_next t at 1 (past t at) refl inside e 0 refl)
    follows_here e h (suc n) = ap past_found (found_next t at (suc n) (past t at) refl inside e n refl) ∙ h n ∙ sym (found_next t at (suc (suc n)) (past t at) refl inside e (suc n) refl)

  follows_by : (k at : ℕ) → length t - at < k → (n : ℕ) → Follows at n
  follows_by zero at h n = absurd (omega arith)
  follows_by (suc k) at h n = go (ltb at (length t)) refl (λ l m. follows_by k (past t at) (omega (arith, past_on t at l)) m)
    where
      go : (b : Bool) → ltb at (length t) ≡ b → (at < length t → (m : ℕ) → Follows (past t at) m) → Follows at n
      go false e later = follows_none at n (ltb-false at (length t) e)
      go true e later = by (eqb (byte t at) 3) refl
        where
          by : (c : Bool) → eqb (byte t at) 3 ≡ c → Follows at n
          by true q = let l = ltb-true at (length t) e in follows_here at l (eqb-true (byte t at) 3 q) (later l) n
          by false q = let l = ltb-true at (length t) e in follows_later at l (eqb-false (byte t at) 3 q) n (later l n)

  pub follows : (at n : ℕ) → Follows at n
  follows at n = follows_by (suc (length t - at)) at (omega arith) n
