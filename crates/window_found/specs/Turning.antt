-- One turn of the walk, by its four tests.
use Rattle.std.specs.Prelude.{ℕ, ◌-◌, ◌<◌, ◌≤◌, ◌≡◌, refl, Bool, true, false, ◌&&◌, not, Option, Some, None, List, length, set, eqb, ℤ, pos, nat_abs}
use Rattle.std.proofs.Common.{arith, ap, ◌∙◌}
use Rattle.std.proofs.Math.Path.{sym}
use Rattle.std.proofs.Math.Bool.{cond}
use Rattle.std.proofs.lemmas.Bool.{eqb-false}
use Rattle.std.specs.Int.Signed.{lt_z}
use Rattle.meaning.specs.Value.{in_range}
use Rattle.meaning_window.specs.Window.{value_at, number_at, same_number}
use Rattle.value.specs.Overflow.{reach}
use Rattle.theory_window.specs.Next.{leaving_of}
use Rattle.theory_window.specs.Leaders.{before}
use Rattle.window_found.specs.Turns.{matched_at, stays_at, turn_by_value, cells_by, turn_at, cells_at, turned, cells_after, passing, ending, staying, found_by, concluded}
use Rattle.window_found.specs.declared.Numbers.{Numbers}
use Rattle.window_found.specs.declared.Walk.{Walk}

module _ (s area : List ℤ) (k : ℕ) (v : ℤ) (w : Walk) (cells : List ℕ) (i : ℕ) (e : i ≡ before (length s) w.slot) where
  abbrev x : ℤ
  x = value_at s i

  turn_by : (a b c d : Bool) → in_range (value_at s i) ≡ a → lt_z w.top (value_at s i) ≡ b → matched_at area w.unmatched i ≡ c → stays_at i k (value_at s i) v ≡ d → turn_by_value a b c d w i (value_at s i) ≡ turned s area k v w
  unfolding turned
  turn_by a b c d ea eb ec ed = sym (ap (turn_at s area k v w) (sym e) ∙ (λ j. turn_by_value (ea j) (eb j) (ec j) (ed j) w i (value_at s i)))

  cells_by_lem : (a b c d : Bool) → in_range (value_at s i) ≡ a → lt_z w.top (value_at s i) ≡ b → matched_at area w.unmatched i ≡ c → stays_at i k (value_at s i) v ≡ d → cells_by a b c d w i cells ≡ cells_after s area k v w cells
  unfolding cells_after
  cells_by_lem a b c d ea eb ec ed = sym (ap (λ m. cells_at s area k v w m cells) (sym e) ∙ (λ j. cells_by (ea j) (eb j) (ec j) (ed j) w i cells))

  -- what a turn answers and leaves
  abbrev pub Does : Option Walk → List ℕ → Type 0
  Does r after = (r ≡ turned s area k v w) × (after ≡ cells_after s area k v w cells)

  abbrev m : Bool
  m = matched_at area w.unmatched i

  abbrev d : Bool
  d = stays_at i k x v

  pub does_out : in_range (value_at s i) ≡ false → Does None cells
  does_out a = (turn_by false (lt_z w.top x) m d a refl refl refl, cells_by_lem false (lt_z w.top x) m d a refl refl refl)

  module _ (a : in_range (value_at s i) ≡ true) where
    pub does_pass : lt_z w.top (value_at s i) ≡ false → {r : Option Walk} → r ≡ Some (passing w i (value_at s i)) → Does r cells
    does_pass b q = (q ∙ turn_by true false m d a b refl refl, cells_by_lem true false m d a b refl refl)

    module _ (b : lt_z w.top (value_at s i) ≡ true) where
      pub does_other : matched_at area w.unmatched i ≡ false → Does None cells
      does_other c = (turn_by true true false d a b c refl, cells_by_lem true true false d a b c refl)

      module _ (c : matched_at area w.unmatched i ≡ true) where
        pub does_end : stays_at i k (value_at s i) v ≡ false → {r : Option Walk} → r ≡ Some (ending w i (value_at s i)) → Does r cells
        does_end t q = (q ∙ turn_by true true true false a b c t, cells_by_lem true true true false a b c t)

        pub does_stay : stays_at i k (value_at s i) v ≡ true → {r : Option Walk} → r ≡ Some (staying w i (value_at s i)) → Does r (set cells (w.from - 1) i)
        does_stay t q = (q ∙ turn_by true true true true a b c t, cells_by_lem true true true true a b c t)

-- a slot is matched where a leader cell is left
pub matched_some : (area : List ℤ) (u i : ℕ) → matched_at area u i ≡ true → 0 < u
matched_some area u i e = by (eqb u 0) refl
  where
    by : (b : Bool) → eqb u 0 ≡ b → 0 < u
    by true q = absurd (let z : true ≡ false = sym e ∙ ap (λ t. not t && eqb (number_at area (u - 1)) i) q in let y : ◌≡◌ {A = ℕ} 0 1 = cc in omega arith)
    by false q = omega (arith, eqb-false u 0 q)

-- ---- the end

module _ (n : ℕ) (at : Numbers) (v : ℤ) (w : Walk) where
  pub conclude_not : (eqb w.unmatched 0 && same_number at.total w.sum) ≡ false → None ≡ concluded n at v w
  unfolding concluded
  conclude_not e = sym (ap (λ b. cond b (Some (found_by n at v w)) None) e)

  pub conclude_met : (eqb w.unmatched 0 && same_number at.total w.sum) ≡ true → Some (found_by n at v w) ≡ concluded n at v w
  unfolding concluded
  conclude_met e = sym (ap (λ b. cond b (Some (found_by n at v w)) None) e)

pub leaving_size : (n h : ℕ) (z : ℤ) → nat_abs z ≤ reach → nat_abs (leaving_of n h z) ≤ reach
leaving_size n h z l = by (eqb h n)
  where
    by : (b : Bool) → nat_abs (cond b z (pos 0)) ≤ reach
    by true = l
    by false = omega arith
