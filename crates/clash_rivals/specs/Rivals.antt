-- Pairs of productions by their rows, their sets and what is kept of their entry conditions: a low and a high end for each
-- inherited attribute, production p's from 8 p on, and what there are of them: 0 none, 1 ranges, 2 a comparison.
use Rattle.std.specs.Prelude.{ℕ, ◌≤◌, ◌<◌, ◌≡◌, ◌⊎◌, Bool, ◌&&◌, ◌||◌, not, List, T, eqb, get_or, Option, MatchOption}
use Rattle.std.proofs.Math.Decide.{ℕ_discrete}
use Rattle.std.proofs.Math.Path.{refl, sym}
use Rattle.std.proofs.Common.{ap, ◌∙◌, subst, inl, inr, eqb→eq}
use Rattle.std.proofs.Math.Bool.{true, false}
use borrow.Author.Tests.{eq-eqb, ne_eqb}
use Rattle.meaning.specs.Decide.{meet}
use Rattle.theory_base.specs.Members.{both, true→T}
use Rattle.token_set.specs.SetBits.{set_of}
use Rattle.outline.specs.Images.{left_at}
use Rattle.clash_rivals.specs.intervals.Intervals.{leave_values}

-- one left side and sets that meet
unfoldable pub start_together : List ℕ → List ℕ → ℕ → ℕ → Bool
start_together rows sets p q = eqb (left_at rows p) (left_at rows q) && meet (set_of (get_or sets p 0)) (set_of (get_or sets q 0))

-- intervals keep apart only where both have ranges only
unfoldable pub rival : List ℕ → List ℕ → List ℕ → List ℕ → List ℕ → ℕ → ℕ → Bool
rival rows sets lows highs ranks p q = start_together rows sets p q && (not (eqb (get_or ranks p 0) 1) || not (eqb (get_or ranks q 0) 1) || leave_values lows highs p q)

-- r is the lowest number from `from` to below `end` that passes; none, and none of them passes
abbrev pub NextRival : (ℕ → Bool) → ℕ → ℕ → Option ℕ → Type 0
NextRival f end from r = MatchOption r ((j : ℕ) → from ≤ j → j < end → f j ≡ false) (λ i. (from ≤ i) × (i < end) × (f i ≡ true) × ((j : ℕ) → from ≤ j → j < i → f j ≡ false))

module _ (rows sets : List ℕ) (p q : ℕ) where
  pub start_other : (left_at rows p ≡ left_at rows q → ⊥) → false ≡ start_together rows sets p q
  unfolding start_together
  start_other n = sym (ap (λ b. b && meet (set_of (get_or sets p 0)) (set_of (get_or sets q 0))) (ne_eqb (left_at rows p) (left_at rows q) n))

  pub start_same : left_at rows p ≡ left_at rows q → (r : Bool) → r ≡ meet (set_of (get_or sets p 0)) (set_of (get_or sets q 0)) → r ≡ start_together rows sets p q
  unfolding start_together
  start_same e r h = h ∙ sym (ap (λ b. b && meet (set_of (get_or sets p 0)) (set_of (get_or sets q 0))) (eq-eqb (left_at rows p) (left_at rows q) e))

  pub start_tells : start_together rows sets p q ≡ true → (left_at rows p ≡ left_at rows q) × T (meet (set_of (get_or sets p 0)) (set_of (get_or sets q 0)))
  unfolding start_together
  start_tells e =
      let u = both (eqb (left_at rows p) (left_at rows q)) (meet (set_of (get_or sets p 0)) (set_of (get_or sets q 0))) (true→T _ e) in
      (eqb→eq (left_at rows p) (left_at rows q) u.0, u.1)

-- what the test finds, and what its answer tells
module _ (rows sets lows highs ranks : List ℕ) (p q : ℕ) where
  abbrev unranked : Bool
  unranked = not (eqb (get_or ranks p 0) 1) || not (eqb (get_or ranks q 0) 1) || leave_values lows highs p q

  pub rival_apart : start_together rows sets p q ≡ false → false ≡ rival rows sets lows highs ranks p q
  unfolding rival
  rival_apart e = sym (ap (λ b. b && unranked) e)

  pub rival_later : start_together rows sets p q ≡ true → (get_or ranks p 0 ≡ 1 → ⊥) → true ≡ rival rows sets lows highs ranks p q
  unfolding rival
  rival_later e n = sym (rw (e, ne_eqb (get_or ranks p 0) 1 n) refl)

  pub rival_earlier : start_together rows sets p q ≡ true → (get_or ranks q 0 ≡ 1 → ⊥) → true ≡ rival rows sets lows highs ranks p q
  unfolding rival
  rival_earlier e n = sym (rw (e, ne_eqb (get_or ranks q 0) 1 n) (or_true (not (eqb (get_or ranks p 0) 1))))
    where
      or_true : (b : Bool) → (b || true || leave_values lows highs p q) ≡ true
      or_true true = refl
      or_true false = refl

  pub rival_ranges : start_together rows sets p q ≡ true → get_or ranks p 0 ≡ 1 → get_or ranks q 0 ≡ 1 → {r : Bool} → r ≡ leave_values lows highs p q → r ≡ rival rows sets lows highs ranks p q
  unfolding rival
  rival_ranges e i j h = h ∙ sym (rw (e, eq-eqb (get_or ranks p 0) 1 i, eq-eqb (get_or ranks q 0) 1 j) refl)

  pub rival_starts : rival rows sets lows highs ranks p q ≡ true → start_together rows sets p q ≡ true
  unfolding rival
  rival_starts e = go (start_together rows sets p q) e
    where
      go : (b : Bool) → (b && unranked) ≡ true → b ≡ true
      go true h = refl
      go false h = h

  -- of two that start together the intervals tell, where both have ranges only
  pub rival_values : start_together rows sets p q ≡ true → get_or ranks p 0 ≡ 1 → get_or ranks q 0 ≡ 1 → leave_values lows highs p q ≡ rival rows sets lows highs ranks p q
  rival_values e i j = rival_ranges e i j refl

  -- no rival: they do not start together, or both have ranges only
  pub no_rival : rival rows sets lows highs ranks p q ≡ false → (start_together rows sets p q ≡ false) ⊎ ((start_together rows sets p q ≡ true) × (get_or ranks p 0 ≡ 1) × (get_or ranks q 0 ≡ 1))
  no_rival e = go (start_together rows sets p q) refl (ℕ_discrete (get_or ranks p 0) 1) (ℕ_discrete (get_or ranks q 0) 1)
    where
      yes_no : true ≡ false → ⊥
      yes_no z = subst T z tt

      go : (b : Bool) → start_together rows sets p q ≡ b → Dec (get_or ranks p 0 ≡ 1) → Dec (get_or ranks q 0 ≡ 1) → (start_together rows sets p q ≡ false) ⊎ ((start_together rows sets p q ≡ true) × (get_or ranks p 0 ≡ 1) × (get_or ranks q 0 ≡ 1))
      go false s i j = inl s
      go true s (yes i) (yes j) = inr (s, i, j)
      go true s (no n) j = absurd (yes_no (rival_later s n ∙ e))
      go true s (yes i) (no n) = absurd (yes_no (rival_earlier s n ∙ e))
