-- The ways of the functions on one field and on intervals.
use Rattle.std.proofs.Common.{◌≡◌, ℕ, ◌-◌, ◌≤◌, min, max, Bool, true, false, eqb, List, get_or, set, ℤ, nat_abs, sym, refl, ap, ◌∙◌, ap₂, to_z-of_z, w64, SFits, to_z, of_z, eq-eqb, ne_eqb}
use mathlib.Core.Option.{Option, none, some}
use Rattle.meaning.specs.Grammar.{Condition, range, atmost}
use Rattle.meaning.specs.Table.{byte, constant_at}
use Rattle.clash_entries.specs.conditions.BoundWords.{biased}
use Rattle.clash_entries.specs.conditions.EntryConditions.{raise_by, lower_by, entry_here, condition_here, offset_here, if_entry, after_field}

-- ---- a signed local holds bits: a number that it holds is read back

pub held_size : {z : ℤ} {n : ℕ} → SFits w64 z → nat_abs z ≤ n → nat_abs (to_z w64 (of_z w64 z)) ≤ n
held_size f l = rw (to_z-of_z f) l

-- ---- one field

module _ (d : List ℕ) (t : ℕ) (et : t ≡ byte d 0) where
  pub entry_tag : (t ≡ 5 → ⊥) → false ≡ entry_here d
  unfolding entry_here
  entry_tag n = sym (rw (sym et, ne_eqb t 5 n) refl)

  module _ (tag : t ≡ 5) (p : ℕ) (ep : p ≡ byte d 4) where
    pub entry_place : (p ≡ 0 → ⊥) → false ≡ entry_here d
    unfolding entry_here
    entry_place n = sym (rw (sym et, eq-eqb t 5 tag, sym ep, ne_eqb p 0 n) refl)

    module _ (z : p ≡ 0) (k : ℕ) (ek : k ≡ byte d 3) where
      pub entry_range : k ≡ 0 → true ≡ entry_here d
      unfolding entry_here
      entry_range y = sym (rw (sym et, eq-eqb t 5 tag, sym ep, eq-eqb p 0 z, sym ek, eq-eqb k 0 y) refl)

      pub entry_other : (k ≡ 0 → ⊥) → (q : ℕ) → q ≡ byte d 6 → eqb q 0 ≡ entry_here d
      unfolding entry_here
      entry_other y q eq = sym (rw (sym et, eq-eqb t 5 tag, sym ep, eq-eqb p 0 z, sym ek, ne_eqb k 0 y, sym eq) refl)

-- a condition by its kind
module _ (d : List ℕ) (k : ℕ) (ek : k ≡ byte d 3) where
  abbrev by_kind : Bool → Condition ℕ
  by_kind b = elim b [ true ↦ range (byte d 5) (constant_at d 6) (constant_at d 10) | false ↦ atmost (byte d 5) (byte d 7) (offset_here d) ]

  abbrev by_offset : Bool → Option ℤ
  by_offset b = elim b [ true ↦ none | false ↦ some (constant_at d 8) ]

  pub range_here : k ≡ 0 → condition_here d ≡ range (byte d 5) (constant_at d 6) (constant_at d 10)
  unfolding condition_here
  range_here z = ap by_kind (eq-eqb (byte d 3) 0 (sym ek ∙ z))

  pub compare_here : (k ≡ 0 → ⊥) → condition_here d ≡ atmost (byte d 5) (byte d 7) (offset_here d)
  unfolding condition_here
  compare_here n = ap by_kind (ne_eqb (byte d 3) 0 (λ z. n (ek ∙ z)))

  pub offset_none : k ≡ 1 → offset_here d ≡ none
  unfolding offset_here
  offset_none z = ap by_offset (eq-eqb (byte d 3) 1 (sym ek ∙ z))

  pub offset_some : (k ≡ 1 → ⊥) → offset_here d ≡ some (constant_at d 8)
  unfolding offset_here
  offset_some n = ap by_offset (ne_eqb (byte d 3) 1 (λ z. n (ek ∙ z)))

module _ {S : Type 0} (f : Condition ℕ → S → S) (d : List ℕ) (s : S) where
  pub field_passed : entry_here d ≡ false → s ≡ after_field f d s
  unfolding after_field
  field_passed n = sym (ap (λ b. if_entry b (f (condition_here d) s) s) n)

  pub field_taken : entry_here d ≡ true → (c : Condition ℕ) → condition_here d ≡ c → f c s ≡ after_field f d s
  unfolding after_field
  field_taken t c e = sym (ap₂ (λ b c. if_entry b (f c s) s) t e)

module _ (d ends : List ℕ) (here : entry_here d ≡ true) (k : ℕ) (ek : k ≡ byte d 3) (z : k ≡ 0) (i a : ℕ) (ea : a ≡ byte d 5) (ei : i ≡ a - 1) (v : ℕ) (new : List ℕ) where
  pub raise_here : v ≡ biased (constant_at d 6) → new ≡ set ends i (max v (get_or ends i 0)) → new ≡ after_field raise_by d ends
  raise_here ev e = e ∙ ap₂ (λ j w. set ends j (max w (get_or ends j 0))) (ei ∙ ap (λ z. z - 1) ea) ev ∙ field_taken raise_by d ends here _ (range_here d k ek z)

  pub lower_here : v ≡ biased (constant_at d 10) → new ≡ set ends i (min v (get_or ends i 0)) → new ≡ after_field lower_by d ends
  lower_here ev e = e ∙ ap₂ (λ j w. set ends j (min w (get_or ends j 0))) (ei ∙ ap (λ z. z - 1) ea) ev ∙ field_taken lower_by d ends here _ (range_here d k ek z)
