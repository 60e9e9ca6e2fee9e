-- The ways of the functions on two productions.
use Prim.Native.Nat.{ℕ, ◌+◌, ◌-◌, ◌≤◌, ◌<◌}
use native.Mathlib.Decide.{dec_lt, ℕ_discrete}
use native.Mathlib.Omega.{arith}
use mathlib.Core.Path.{◌≡◌, refl, sym, ap, ◌∙◌, subst}
use mathlib.Core.Logic.{◌⊎◌, inl, inr}
use mathlib.Core.Bool.{Bool, true, false, ◌&&◌}
use mathlib.Core.List.{List, [], ◌++◌}
use lib.Dec.{T, eqb}
use lib.ListN.{get_or, length, take, drop}
use Rattle.meaning.specs.Base.{all}
use lib.IntN.{ℤ}
use Rattle.meaning.specs.Limits.{attributes_limit}
use Rattle.meaning.specs.Grammar.{Production, production_at}
use Rattle.meaning.specs.Sets.{has, singleton}
use Rattle.meaning.specs.Decide.{meet}
use Rattle.meaning.specs.Differences.{constrained, matrix_of, closed, none_negative, solvable}
use Rattle.theory_sets.specs.Intervals.{entry}
use Rattle.theory_sets.specs.TokenSets.{single_is}
use Rattle.token_set.specs.SetBits.{set_of}
use Rattle.outline.specs.Images.{left_at}
use Rattle.set_words.specs.Views.{members}
use Rattle.set_words.specs.Growth.{none_in}
use Rattle.std.specs.Prelude.{Option, Some, None, MatchOption}
use Rattle.analysis.specs.Numbers.{Clear, clear_none}
use Rattle.clash_entries.specs.conditions.EntryConditions.{at_entry, rank_by, raised, lowered, Stretch}
use Rattle.clash_rivals.specs.intervals.Intervals.{leave_values}
use Rattle.clash_rivals.specs.Rivals.{start_together, rival, NextRival, rival_starts, rival_values, no_rival}
use Rattle.outline.specs.Outline.{grammar_in}
use Rattle.clash.specs.Together.{enter_together, later_free, earlier_free, rank_most, matrix_solvable, ranges_together, compared_together}
use Rattle.clash_entries.specs.conditions.Walk.{after_all}
use Rattle.theory_base.specs.Members.{from_on}
use Rattle.clash.specs.Placing.{Placed}
use Rattle.clash.specs.Clashing.{Kept, KeptTo, Given, given_place, Meeting, Seen, FirstRival, clash_in, enter_in, clash_apart, clash_met, both_kept, unmet_clear}

-- ---- two productions

-- the slice from a production's offset on
pub stretch_slice : {t offsets : List ℕ} {p : ℕ} → Placed t offsets p → (from : ℕ) → from ≡ get_or offsets p 0 → Stretch (take (length t - from) (drop from t)) (production_at (grammar_in t) p)
stretch_slice {t} {offsets} {p} x from e = subst (λ z. Stretch z (production_at (grammar_in t) p)) (sym (from_on t from ∙ ap (λ n. drop n t) e)) x.stretch

-- by intervals
pub values_together :
    {t offsets lows highs ranks : List ℕ} {p q : ℕ} {r : Bool} → Placed t offsets p → Kept t lows highs ranks p → Placed t offsets q → Kept t lows highs ranks q
    → (get_or ranks p 0 ≡ 0 → ⊥) → (get_or ranks q 0 ≡ 0 → ⊥) → get_or ranks p 0 + get_or ranks q 0 ≤ 2 → r ≡ leave_values lows highs p q → r ≡ enter_together (production_at (grammar_in t) p) (production_at (grammar_in t) q)
unfolding raised lowered
values_together {t} {p = p} {q = q} x kp y kq i j sum e =
    let a = kp.rank in
    let b = kq.rank in
    e ∙ ranges_together (production_at (grammar_in t) p) (production_at (grammar_in t) q) (omega arith) (omega arith) x.stretch.fits y.stretch.fits (omega arith) kp.low kq.low kp.high kq.high

-- where none compares
pub ranges_free :
    (p q : Production) (first second : ℕ) → first ≡ after_all rank_by p 0 → second ≡ after_all rank_by q 0 → first + second ≤ 2
    → (first ≡ 1 → second ≡ 1 → enter_together p q ≡ true) → true ≡ enter_together p q
ranges_free p q first second a b sum k = go (ℕ_discrete first 0) (ℕ_discrete second 0)
  where
    go : Dec (first ≡ 0) → Dec (second ≡ 0) → true ≡ enter_together p q
    go (yes i) d = later_free p q (sym a ∙ i)
    go (no i) (yes j) = earlier_free p q (sym b ∙ j)
    go (no i) (no j) = sym (k (omega arith) (omega arith))

-- a rank is at most 2
pub rank_small : (p : Production) {n : ℕ} → n ≡ after_all rank_by p 0 → n ≤ 2
rank_small p e = omega (arith, rank_most (at_entry p.conditions) 0 (omega arith))

-- where one compares
pub differences_together :
    (p q : Production) {first second : ℕ} {r : Bool} → first ≡ after_all rank_by p 0 → second ≡ after_all rank_by q 0 → 2 < first + second
    → r ≡ solvable attributes_limit (at_entry p.conditions ++ at_entry q.conditions) → r ≡ enter_together p q
differences_together p q a b sum e =
    let l = rank_small p a in
    let m = rank_small q b in
    e ∙ compared_together p q (omega arith) (omega arith) (omega arith)

-- what is known at a step of the search among the productions before p: no clash with those before the rival, or with any
abbrev pub Ahead : (ℕ → Bool) → (ℕ → Bool) → ℕ → Option ℕ → Type 0
Ahead clashing rivalling p r = MatchOption r (Clear clashing p) (λ q. (q < p) × Clear clashing q × (rivalling q ≡ true))

-- how many are still to be looked at
abbrev pub to_look_at : ℕ → Option ℕ → ℕ
to_look_at p None = 0
to_look_at p (Some q) = p - q

-- what the intervals that are kept tell of two productions
module _
    {t rows offsets sets : List ℕ} {count met : ℕ} {lows highs ranks : List ℕ} (x : Given t rows offsets sets count) (m : Meeting rows sets count met) (p : ℕ) (k : KeptTo t rows met lows highs ranks (p + 1)) (l : p < count) where
  kept_together : (q : ℕ) → q < p → start_together rows sets p q ≡ true → get_or ranks p 0 ≡ 1 → get_or ranks q 0 ≡ 1 → rival rows sets lows highs ranks p q ≡ enter_in t p q
  kept_together q h s i j =
      let w = both_kept m p q k l h _ refl s in
      sym (rival_values rows sets lows highs ranks p q s i j)
      ∙ values_together (given_place x p l) w.0 (given_place x q (omega arith)) w.1 (λ z. absurd (omega arith)) (λ z. absurd (omega arith)) (omega arith) refl

  -- a rival's entry conditions can be met together with the others where both are ranges
  pub rival_enters : (q : ℕ) → q < p → rival rows sets lows highs ranks p q ≡ true → get_or ranks p 0 ≡ 1 → get_or ranks q 0 ≡ 1 → enter_in t p q ≡ true
  rival_enters q h e i j = sym (kept_together q h (rival_starts rows sets lows highs ranks p q e) i j) ∙ e

  -- no rival, no clash
  apart_clear : (q : ℕ) → q < p → rival rows sets lows highs ranks p q ≡ false → clash_in t p q ≡ false
  apart_clear q h e = go (no_rival rows sets lows highs ranks p q e)
    where
      go : (start_together rows sets p q ≡ false) ⊎ ((start_together rows sets p q ≡ true) × (get_or ranks p 0 ≡ 1) × (get_or ranks q 0 ≡ 1)) → clash_in t p q ≡ false
      go (inl s) = clash_apart x p q l (omega arith) _ refl s
      go (inr w) = clash_met x p q l (omega arith) _ refl w.0 _ (kept_together q h w.0 w.1 w.2) _ e

  pub clear_on : (from : ℕ) (r : Option ℕ) → Clear (clash_in t p) from → NextRival (rival rows sets lows highs ranks p) p from r → Ahead (clash_in t p) (rival rows sets lows highs ranks p) p r
  clear_on from None c n = record { clear = λ j h u. go j h u (dec_lt j from) }
    where
      go : (j : ℕ) → j < p → T (clash_in t p j) → Dec (j < from) → ⊥
      go j h u (yes i) = c.clear j i u
      go j h u (no i) = subst T (apart_clear j h (n j (omega arith) h)) u
  clear_on from (Some r) c n = (n.1, record { clear = λ j h u. go j h u (dec_lt j from) }, n.2)
    where
      go : (j : ℕ) → j < r → T (clash_in t p j) → Dec (j < from) → ⊥
      go j h u (yes i) = c.clear j i u
      go j h u (no i) = subst T (apart_clear j (omega (arith, n.1)) (n.3 j (omega arith) h)) u

  -- where it begins
  pub first_known :
      (seen : List ℕ) → Seen rows sets p seen → (r : Option ℕ) → FirstRival (meet (set_of (get_or seen (left_at rows p) 0)) (set_of (get_or sets p 0))) (rival rows sets lows highs ranks p) p r → Ahead (clash_in t p) (rival rows sets lows highs ranks p) p r
  first_known seen s r f = go (meet (set_of (get_or seen (left_at rows p) 0)) (set_of (get_or sets p 0))) refl
    where
      go : (b : Bool) → meet (set_of (get_or seen (left_at rows p) 0)) (set_of (get_or sets p 0)) ≡ b → Ahead (clash_in t p) (rival rows sets lows highs ranks p) p r
      go true e = clear_on 0 r (clear_none (clash_in t p)) (f.met e)
      go false e = subst (Ahead (clash_in t p) (rival rows sets lows highs ranks p) p) (sym (f.unmet e)) (unmet_clear x p seen l s e)

-- by the matrix
pub closed_solvable :
    (p q : Production) {m₁ m : List ℤ} {r : Bool} → m₁ ≡ after_all constrained p (matrix_of attributes_limit []) → m ≡ after_all constrained q m₁ → T (all (entry attributes_limit) (at_entry p.conditions)) → T (all (entry attributes_limit) (at_entry q.conditions))
    → r ≡ none_negative (closed m) → r ≡ solvable attributes_limit (at_entry p.conditions ++ at_entry q.conditions)
closed_solvable p q x y f k e = e ∙ ap (λ z. none_negative (closed z)) (y ∙ ap (after_all constrained q) x) ∙ matrix_solvable (at_entry p.conditions) (at_entry q.conditions) f k

-- ---- a left side whose sets meet

module _ (seen s left : ℕ) (small : left < 64) (b : Bool) (e : b ≡ meet (set_of seen) (set_of s)) where
  pub crossing_met : b ≡ true → (r : ℕ) → set_of r ≡ singleton left → (a : ℕ) → members r a ≡ (meet (set_of seen) (set_of s) && eqb left a)
  crossing_met t r i a = ap (λ z. has z a) i ∙ (single_is left a small ∙ sym (ap (λ z. z && eqb left a) (sym e ∙ t)))

  pub crossing_none : b ≡ false → (a : ℕ) → members 0 a ≡ (meet (set_of seen) (set_of s) && eqb left a)
  crossing_none t a = none_in a ∙ sym (ap (λ z. z && eqb left a) (sym e ∙ t))
