use Rattle.std.proofs.Common.{rules, sym, ap, ◌∙◌, ◌≡◌, Bool, true, false, not, ℕ, ℤ, ◌+ℤ◌, SFits, to_z, of_z, to_z-of_z}
use Rattle.std.proofs.lemmas.Bool.{not-true, not-false}
use Rattle.std.specs.Int.{w64}
use Rattle.std.specs.Int.Signed.{lt_z, le_z}
use Rattle.meaning.specs.Value.{in_range}
use Rattle.meaning_window.specs.Window.{value_at}
use Rattle.window_cells.specs.Signed.{le_not_lt}
use Rattle.window_found.specs.Turns.{stays_at, passing}
use Rattle.window_found.specs.declared.Walk.{Walk}
use Rattle.window_found.specs.Turning.{does_out, does_pass, does_other, does_end, does_stay}
use Rattle.window_walk.proofs.turn.one_turn.Goals as goal

-- ---- tests of numbers read back from their bits

ranged : (x : ℤ) → SFits w64 x → (b r : Bool) → b ≡ in_range (to_z w64 (of_z w64 x)) → b ≡ r → in_range x ≡ r
ranged x f b r e t = sym (e ∙ ap in_range (to_z-of_z f)) ∙ t

leads : (x t : ℤ) → SFits w64 x → SFits w64 t → (r : Bool) → le_z (to_z w64 (of_z w64 x)) (to_z w64 (of_z w64 t)) ≡ r → lt_z t x ≡ not r
leads x t f g r e = by r (sym (le_not_lt x t) ∙ (sym (λ j. le_z (to_z-of_z f j) (to_z-of_z g j)) ∙ e))
  where
    by : (r : Bool) → not (lt_z t x) ≡ r → lt_z t x ≡ not r
    by true q = not-true (lt_z t x) q
    by false q = not-false (lt_z t x) q

stayed : (i k : ℕ) (x v : ℤ) → SFits w64 x → SFits w64 v → (b r : Bool) → b ≡ stays_at i k (to_z w64 (of_z w64 x)) (to_z w64 (of_z w64 v)) → b ≡ r → stays_at i k x v ≡ r
stayed i k x v f g b r e t = sym (e ∙ (λ j. stays_at i k (to_z-of_z f j) (to_z-of_z g j))) ∙ t

-- the sum of a walk that has gone by one more value
summed : (w : Walk) {u : Walk} {i : ℕ} {x : ℤ} → SFits w64 x → u ≡ passing w i (to_z w64 (of_z w64 x)) → SFits w64 u.sum → SFits w64 (w.sum +ℤ x)
summed w f q m = rw (to_z-of_z f) at (rw q at m)

-- ---- the answers

pub returns-then-not-in_range : goal.returns-then-not-in_range
returns-then-not-in_range c =
    let a = c.args in
    let r = c.before-slot in
    let x : ℤ = value_at a.slots.now r.result in
    let f : SFits w64 x = search rules in
    does_out a.slots.now a.area.now a.next a.value a.w a.leaders.now r.result r.ensures.0 (ranged x f _ _ c.in_range.ensures c.if-not-in_range.true)

pub returns-then-v-w : goal.returns-then-v-w
returns-then-v-w c =
    let a = c.args in
    let r = c.before-slot in
    let x : ℤ = value_at a.slots.now r.result in
    let f : SFits w64 x = search rules in
    let t : SFits w64 a.w.top = search rules in
    let e : in_range x ≡ true = ranged x f _ _ c.in_range.ensures c.if-not-in_range.false in
    does_pass a.slots.now a.area.now a.next a.value a.w a.leaders.now r.result r.ensures.0 e (leads x a.w.top f t _ c.if-v-w.true) (simp (c.passed_by-passed.ensures, to_z-of_z))

pub returns-then-not-is_matched : goal.returns-then-not-is_matched
returns-then-not-is_matched c =
    let a = c.args in
    let r = c.before-slot in
    let x : ℤ = value_at a.slots.now r.result in
    let f : SFits w64 x = search rules in
    let t : SFits w64 a.w.top = search rules in
    let e : in_range x ≡ true = ranged x f _ _ c.in_range.ensures c.if-not-in_range.false in
    does_other a.slots.now a.area.now a.next a.value a.w a.leaders.now r.result r.ensures.0 e (leads x a.w.top f t _ c.if-v-w.false) (sym c.is_matched.ensures ∙ c.if-not-is_matched.true)

pub returns-then-not-is_staying : goal.returns-then-not-is_staying
returns-then-not-is_staying c =
    let a = c.args in
    let r = c.before-slot in
    let x : ℤ = value_at a.slots.now r.result in
    let f : SFits w64 x = search rules in
    let t : SFits w64 a.w.top = search rules in
    let b : SFits w64 a.w.best = search rules in
    let e : in_range x ≡ true = ranged x f _ _ c.in_range.ensures c.if-not-in_range.false in
    let m : SFits w64 c.passed_by-passed.result.sum = search rules in
    let n : SFits w64 (a.w.sum +ℤ x) = summed a.w f c.passed_by-passed.ensures m in
    does_end a.slots.now a.area.now a.next a.value a.w a.leaders.now r.result r.ensures.0 e (leads x a.w.top f t _ c.if-v-w.false) (sym c.is_matched.ensures ∙ c.if-not-is_matched.false)
    (stayed r.result a.next x a.value f c.ranges.value _ _ c.is_staying.ensures c.if-not-is_staying.true) (simp (c.passed_by-passed.ensures, to_z-of_z))

pub returns : goal.returns
returns c =
    let a = c.args in
    let r = c.before-slot in
    let x : ℤ = value_at a.slots.now r.result in
    let f : SFits w64 x = search rules in
    let t : SFits w64 a.w.top = search rules in
    let e : in_range x ≡ true = ranged x f _ _ c.in_range.ensures c.if-not-in_range.false in
    let m : SFits w64 c.passed_by-passed.result.sum = search rules in
    let n : SFits w64 (a.w.sum +ℤ x) = summed a.w f c.passed_by-passed.ensures m in
    does_stay a.slots.now a.area.now a.next a.value a.w a.leaders.now r.result r.ensures.0 e (leads x a.w.top f t _ c.if-v-w.false) (sym c.is_matched.ensures ∙ c.if-not-is_matched.false)
    (stayed r.result a.next x a.value f c.ranges.value _ _ c.is_staying.ensures c.if-not-is_staying.false) (simp (c.passed_by-passed.ensures, to_z-of_z))
