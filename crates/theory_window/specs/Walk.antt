-- The test of the values held by one walk from the newest: its start, its turns and its end.
use Rattle.std.specs.Prelude.{ℕ, ◌≤◌, ◌<◌, ◌≡◌, refl, Bool, true, false, ◌&&◌, cond, List, [], ◌∷◌, map, reverse, length, ℤ, pos, ◌+ℤ◌}
use Rattle.std.proofs.Common.{sym, ap, ◌∙◌, eq-eqb, ne_eqb}
use Rattle.std.proofs.Math.Bool.{and-false}
use Rattle.std.proofs.lemmas.List.{reverse-reverse}
use Rattle.std.proofs.Math.IntN.{+ℤ_idl, +ℤ_idr, +ℤ_assoc}
use Rattle.std.specs.Int.Signed.{lt_z}
use Rattle.meaning.specs.Base.{all}
use Rattle.meaning.specs.Value.{in_range, mark}
use Rattle.meaning_window.specs.Window.{total, value_at, leaders_of, same_number}
use Rattle.theory_window.specs.Parts.{eq_numbers, values_of, values_fit}
use Rattle.theory_window.specs.Lists.{same_test, all_reverse}
use Rattle.theory_window.specs.Sums.{total_reverse}
use Rattle.theory_window.specs.Leaders.{leads_back, down_from, values_back, leaders_back}
use Rattle.theory_window.specs.Kept.{numbers_same, numbers_refl}

-- of slots from the newest: values in range, these leaders above the top, and a total that gives t with the sum
abbrev pub walk_fits : (ℕ → ℤ) → (t top sum : ℤ) → (ls is : List ℕ) → Bool
walk_fits f t top sum ls is = all in_range (map f is) && (eq_numbers ls (leads_back f top is) && same_number t (sum +ℤ total (map f is)))

numbers_reverse : (is js : List ℕ) → eq_numbers is js ≡ eq_numbers (reverse is) (reverse js)
numbers_reverse is js = same_test (eq_numbers is js) (eq_numbers (reverse is) (reverse js))
    (λ e. rw (numbers_same is js e) (numbers_refl (reverse js)))
    (λ e. rw (sym (reverse-reverse is) ∙ (ap reverse (numbers_same (reverse is) (reverse js) e) ∙ reverse-reverse js)) (numbers_refl js))

-- the second test is asked only where the first holds
guarded : (a : Bool) {b c : Bool} → (a ≡ true → b ≡ c) → (a && b) ≡ (a && c)
guarded true f = f refl
guarded false f = refl

pub walk_start : (n h k : ℕ) (s : List ℤ) (ls : List ℕ) (t : ℤ) → length s ≡ n → h ≤ n → k < n → values_fit n h k s ls t ≡ walk_fits (value_at s) t mark (pos 0) (reverse ls) (down_from n h k)
walk_start n h k s ls t e l q =
    let vs : List ℤ = values_of n h k s in
    let back : map (value_at s) (down_from n h k) ≡ reverse vs = values_back n h k s e l q in
    let sums : total vs ≡ pos 0 +ℤ total (map (value_at s) (down_from n h k)) = sym (+ℤ_idl (total (map (value_at s) (down_from n h k))) ∙ (ap total back ∙ total_reverse vs)) in
    guarded (all in_range vs) (λ a.
    let leaders : eq_numbers ls (leaders_of n h k s) ≡ eq_numbers (reverse ls) (leads_back (value_at s) mark (down_from n h k)) =
    numbers_reverse ls (leaders_of n h k s) ∙ ap (eq_numbers (reverse ls)) (sym (leaders_back n h k s e l q a)) in
    (λ i. leaders i && same_number t (sums i)))
    ∙ ap (λ b. b && (eq_numbers (reverse ls) (leads_back (value_at s) mark (down_from n h k)) && same_number t (pos 0 +ℤ total (map (value_at s) (down_from n h k))))) (sym (ap (all in_range) back ∙ all_reverse in_range vs))

module _ (f : ℕ → ℤ) (t top sum : ℤ) (i : ℕ) (is : List ℕ) where
  -- the value at hand is not in range
  pub walk_out : (ls : List ℕ) → in_range (f i) ≡ false → walk_fits f t top sum ls (i ∷ is) ≡ false
  walk_out ls r = ap (λ b. (b && all in_range (map f is)) && (eq_numbers ls (leads_back f top (i ∷ is)) && same_number t (sum +ℤ total (map f (i ∷ is))))) r

  module _ (r : in_range (f i) ≡ true) where
    turn : (ls : List ℕ) (b : Bool) → lt_z top (f i) ≡ b → walk_fits f t top sum ls (i ∷ is) ≡ (all in_range (map f is) && (eq_numbers ls (cond b (i ∷ leads_back f (f i) is) (leads_back f top is)) && same_number t (sum +ℤ f i +ℤ total (map f is))))
    turn ls b d = (λ j. (r j && all in_range (map f is)) && (eq_numbers ls (cond (d j) (i ∷ leads_back f (f i) is) (leads_back f top is)) && same_number t (sym (+ℤ_assoc sum (f i) (total (map f is))) j)))

    -- it does not lead
    pub walk_skip : (ls : List ℕ) → lt_z top (f i) ≡ false → walk_fits f t top sum ls (i ∷ is) ≡ walk_fits f t top (sum +ℤ f i) ls is
    walk_skip ls d = turn ls false d

    module _ (d : lt_z top (f i) ≡ true) where
      pub walk_none : walk_fits f t top sum [] (i ∷ is) ≡ false
      walk_none = turn [] true d ∙ and-false (all in_range (map f is))

      pub walk_other : (j : ℕ) (js : List ℕ) → (j ≡ i → ⊥) → walk_fits f t top sum (j ∷ js) (i ∷ is) ≡ false
      walk_other j js z =
          turn (j ∷ js) true d
          ∙ (ap (λ b. all in_range (map f is) && ((b && eq_numbers js (leads_back f (f i) is)) && same_number t (sum +ℤ f i +ℤ total (map f is)))) (ne_eqb j i z) ∙ and-false (all in_range (map f is)))

      pub walk_next : (j : ℕ) (js : List ℕ) → j ≡ i → walk_fits f t top sum (j ∷ js) (i ∷ is) ≡ walk_fits f t (f i) (sum +ℤ f i) js is
      walk_next j js z = turn (j ∷ js) true d ∙ ap (λ b. all in_range (map f is) && ((b && eq_numbers js (leads_back f (f i) is)) && same_number t (sum +ℤ f i +ℤ total (map f is)))) (eq-eqb j i z)

-- all walked, and each leader found
pub walk_end : (f : ℕ → ℤ) (t top sum : ℤ) → walk_fits f t top sum [] [] ≡ same_number t sum
walk_end f t top sum = ap (same_number t) (+ℤ_idr sum)
