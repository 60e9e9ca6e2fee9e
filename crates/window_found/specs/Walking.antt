-- The test of the values by the walk from the newest, over the cells: the leader cells are matched from the last one.
use Rattle.std.specs.Prelude.{ℕ, suc, ◌-◌, ◌<◌, ◌≤◌, ◌≡◌, refl, Bool, true, false, cond, List, [], ◌∷◌, reverse, length, get_or, take, ℤ, pos, ◌+ℤ◌}
use Rattle.std.proofs.Common.{arith, sym, ap, ◌∙◌, eq-eqb, ne_eqb, length-take, take_all, take-suc, get_or-take}
use Rattle.std.proofs.lemmas.List.{reverse-append, length-map}
use Rattle.std.proofs.Math.ListN.{get_or-map}
use Rattle.std.specs.Int.Signed.{lt_z}
use Rattle.meaning.specs.Value.{in_range, mark}
use Rattle.meaning_window.specs.Window.{value_at, small, number_at, same_number}
use Rattle.theory_window.specs.Parts.{top_at}
use Rattle.theory_window.specs.Leaders.{down_from, before}
use Rattle.theory_window.specs.Walk.{walk_fits, walk_start, walk_out, walk_skip, walk_none, walk_other, walk_next, walk_end}
use Rattle.window_found.specs.Parts as Parts
use Rattle.window_found.specs.Checks.{claimed, values_kept}
use Rattle.window_found.specs.declared.Numbers.{Numbers}

last_first : (is : List ℕ) (u : ℕ) → u < length is → reverse (take (suc u) is) ≡ get_or is u 0 ∷ reverse (take u is)
last_first is u l = ap reverse (take-suc is u 0 l) ∙ reverse-append (take u is) (get_or is u 0 ∷ [])

-- what is left of the test: u leader cells are not matched yet, and so many values not walked, from this slot down, under this top; the others have this sum
abbrev pub left_fits : (s area : List ℤ) (c : ℕ) (t top sum : ℤ) (slot u left : ℕ) → Bool
left_fits s area c t top sum slot u left = walk_fits (value_at s) t top sum (reverse (take u (claimed area c))) (down_from (length s) left slot)

-- ---- the top: the value at the last leader matched

module _ (s area : List ℤ) (c : ℕ) where
  pub top_start : mark ≡ top_at s area c c
  top_start = sym (ap (λ b. cond b mark (value_at s (number_at area c))) (eq-eqb c c refl))

  pub top_next : (u i : ℕ) → 0 < u → u ≤ c → number_at area (u - 1) ≡ i → value_at s i ≡ top_at s area c (u - 1)
  top_next u i p l q = ap (value_at s) (sym q) ∙ sym (ap (λ b. cond b mark (value_at s (number_at area (u - 1)))) (ne_eqb (u - 1) c (λ y. omega arith)))

-- ---- the test

module _ (s area : List ℤ) (at : Numbers) (p : Parts.Window s area at) where
  abbrev c : ℕ
  c = at.count

  abbrev t : ℤ
  t = at.total

  abbrev ls : List ℕ
  ls = claimed area at.count

  pub claimed_long : length (claimed area at.count) ≡ at.count
  claimed_long = omega (arith, length-map (take c area) small, length-take c area, p.alike, p.count)

  pub claimed_read : (u : ℕ) → u < at.count → get_or (claimed area at.count) u 0 ≡ number_at area u
  claimed_read u l = get_or-map small (take c area) u (pos 0) ∙ ap small (get_or-take c area u (pos 0) l)

  pub left_start : values_kept s area at ≡ left_fits s area at.count at.total mark (pos 0) at.next at.count at.held
  left_start =
      walk_start (length s) at.held at.next s ls t (λ i. length s) p.held p.next
      ∙ sym (ap (λ l. walk_fits (value_at s) t mark (pos 0) (reverse l) (down_from (length s) at.held at.next)) (take_all c ls (omega (arith, claimed_long))))

  module _ (top sum : ℤ) (slot u left : ℕ) (m : values_kept s area at ≡ left_fits s area at.count at.total top sum slot u left) where
    abbrev i : ℕ
    i = before (length s) slot

    abbrev x : ℤ
    x = value_at s (before (length s) slot)

    abbrev older : List ℕ
    older = down_from (length s) (left - 1) (before (length s) slot)

    module _ (some : 0 < left) where
      at_hand : values_kept s area at ≡ walk_fits (value_at s) t top sum (reverse (take u ls)) (i ∷ older)
      at_hand =
          let d : left ≡ suc (left - 1) = omega arith in
          m ∙ ap (λ l. walk_fits (value_at s) t top sum (reverse (take u ls)) (down_from (length s) l slot)) d

      pub left_out : in_range (value_at s (before (length s) slot)) ≡ false → values_kept s area at ≡ false
      left_out o = at_hand ∙ walk_out (value_at s) t top sum i older (reverse (take u ls)) o

      module _ (o : in_range (value_at s (before (length s) slot)) ≡ true) where
        pub left_skip : lt_z top (value_at s (before (length s) slot)) ≡ false
            → values_kept s area at ≡ left_fits s area at.count at.total top (sum +ℤ value_at s (before (length s) slot)) (before (length s) slot) u (left - 1)
        left_skip d = at_hand ∙ walk_skip (value_at s) t top sum i older o (reverse (take u ls)) d

        module _ (d : lt_z top (value_at s (before (length s) slot)) ≡ true) where
          pub left_none : u ≡ 0 → values_kept s area at ≡ false
          left_none z = at_hand ∙ (ap (λ v. walk_fits (value_at s) t top sum (reverse (take v ls)) (i ∷ older)) z ∙ walk_none (value_at s) t top sum i older o d)

          module _ (q : 0 < u) (l : u ≤ at.count) where
            abbrev unmatched : List ℕ
            unmatched = reverse (take (u - 1) ls)

            compared : values_kept s area at ≡ walk_fits (value_at s) t top sum (number_at area (u - 1) ∷ unmatched) (i ∷ older)
            compared =
                let g : u ≡ suc (u - 1) = omega arith in
                at_hand ∙ ap (λ js. walk_fits (value_at s) t top sum js (i ∷ older)) (ap (λ v. reverse (take v ls)) g ∙ (last_first ls (u - 1) (omega (arith, claimed_long)) ∙ ap (λ j. j ∷ unmatched) (claimed_read (u - 1) (omega arith))))

            pub left_other : (number_at area (u - 1) ≡ before (length s) slot → ⊥) → values_kept s area at ≡ false
            left_other z = compared ∙ walk_other (value_at s) t top sum i older o d (number_at area (u - 1)) unmatched z

            pub left_next : number_at area (u - 1) ≡ before (length s) slot
                → values_kept s area at ≡ left_fits s area at.count at.total (value_at s (before (length s) slot)) (sum +ℤ value_at s (before (length s) slot)) (before (length s) slot) (u - 1) (left - 1)
            left_next z = compared ∙ walk_next (value_at s) t top sum i older o d (number_at area (u - 1)) unmatched z

    module _ (z : left ≡ 0) where
      ended : values_kept s area at ≡ walk_fits (value_at s) t top sum (reverse (take u ls)) []
      ended = m ∙ ap (λ l. walk_fits (value_at s) t top sum (reverse (take u ls)) (down_from (length s) l slot)) z

      pub left_over : 0 < u → u ≤ at.count → values_kept s area at ≡ false
      left_over q l =
          let g : u ≡ suc (u - 1) = omega arith in
          ended ∙ ap (λ js. walk_fits (value_at s) t top sum js []) (ap (λ v. reverse (take v ls)) g ∙ last_first ls (u - 1) (omega (arith, claimed_long)))

      pub left_end : u ≡ 0 → values_kept s area at ≡ same_number at.total sum
      left_end q = ended ∙ (ap (λ v. walk_fits (value_at s) t top sum (reverse (take v ls)) []) q ∙ walk_end (value_at s) t top sum)
