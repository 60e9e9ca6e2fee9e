use Rattle.std.proofs.Common.{arith, rules, refl, sym, ap, ◌∙◌, ◌≡◌, ◌*◌, ◌≤◌, Bool, true, false, ℤ, ◌+ℤ◌, ◌-ℤ◌, SFits, to_z, of_z, to_z-of_z, ◌&&◌, ne_eqb, eq-eqb, nat_abs}
use Rattle.std.specs.Int.{w64}
use Rattle.meaning_window.specs.Window.{same_number, window_limit, past_window}
use Rattle.value.specs.Overflow.{fits64, reach}
use Rattle.theory_base.specs.Absolute.{nat_abs_add, nat_abs_sub}
use Rattle.theory_window.specs.Kept.{same_number_same, same_number_refl}
use Rattle.theory_window.specs.Next.{leaving_of}
use Rattle.window_found.specs.Turning.{conclude_not, conclude_met, leaving_size}
use Rattle.window_walk.proofs.conclude.Goals.{then-w-ne0-via-then-w-ne0, then-w-ne0-via-else-w-ne0+then-at-w}
use Rattle.window_walk.proofs.conclude.Goals as goal

-- ---- the total's cell and the sum, compared by their bits

same_bits : (x y : ℤ) → SFits w64 x → SFits w64 y → of_z w64 x ≡ of_z w64 y → x ≡ y
same_bits x y f g e = sym (to_z-of_z f) ∙ (ap (to_z w64) e ∙ to_z-of_z g)

other_bits : (x y : ℤ) → (of_z w64 x ≡ of_z w64 y → ⊥) → same_number x y ≡ false
other_bits x y n = by (same_number x y) refl
  where
    by : (b : Bool) → same_number x y ≡ b → b ≡ false
    by true q = absurd (n (ap (of_z w64) (same_number_same x y q)))
    by false q = refl

-- ---- the total with the value

less_size : (t r : ℤ) → nat_abs t ≤ reach * window_limit → nat_abs r ≤ reach → nat_abs (t -ℤ r) ≤ reach * past_window
less_size t r p q = omega (arith, nat_abs_sub t r)

with_fits : (t r v : ℤ) → nat_abs t ≤ reach * window_limit → nat_abs r ≤ reach → nat_abs v ≤ reach → SFits w64 (t -ℤ r +ℤ v)
with_fits t r v p q s = fits64 (t -ℤ r +ℤ v) (omega (arith, less_size t r p q, nat_abs_add (t -ℤ r) v))

pub returns-then-w-ne0 : goal.returns-then-w-ne0
returns-then-w-ne0 c =
    let a = c.args in
    conclude_not a.size a.at a.value a.w (elim c.then-w-ne0.branch [
      | then-w-ne0-via-then-w-ne0 w ↦ ap (λ b. b && same_number a.at.total a.w.sum) (ne_eqb a.w.unmatched 0 w.if-w-ne0.true)
      | then-w-ne0-via-else-w-ne0+then-at-w w ↦ (λ j. eq-eqb a.w.unmatched 0 w.if-w-ne0.false j && other_bits a.at.total a.w.sum w.if-at-w.true j)
    ])

pub overflow_add-result : goal.overflow_add-result
overflow_add-result c =
    let a = c.args in
    let ft : SFits w64 a.at.total = search rules in
    let fs : SFits w64 a.w.sum = search rules in
    let fl : SFits w64 a.w.last = search rules in
    let fr : SFits w64 c.leaving.result = search rules in
    let fv : SFits w64 a.value = c.ranges.value in
    let t : nat_abs a.at.total ≤ reach * window_limit = rw (same_bits a.at.total a.w.sum ft fs c.if-at-w.false) c.requires.sum in
    let r : nat_abs c.leaving.result ≤ reach = rw (c.leaving.ensures, to_z-of_z fl) (leaving_size a.size a.at.held a.w.last c.requires.last) in
    let fd : SFits w64 (a.at.total -ℤ c.leaving.result) = fits64 (a.at.total -ℤ c.leaving.result) (omega (arith, less_size a.at.total c.leaving.result t r)) in
    simp to_z-of_z (with_fits a.at.total c.leaving.result a.value t r c.requires.value)

pub returns : goal.returns
returns c =
    let a = c.args in
    let ft : SFits w64 a.at.total = search rules in
    let fs : SFits w64 a.w.sum = search rules in
    let fl : SFits w64 a.w.last = search rules in
    let fp : SFits w64 a.w.top = search rules in
    let fb : SFits w64 a.w.best = search rules in
    let fr : SFits w64 c.leaving.result = search rules in
    let fv : SFits w64 a.value = c.ranges.value in
    let e : a.at.total ≡ a.w.sum = same_bits a.at.total a.w.sum ft fs c.if-at-w.false in
    let t : nat_abs a.at.total ≤ reach * window_limit = rw e c.requires.sum in
    let q : c.leaving.result ≡ leaving_of a.size a.at.held a.w.last = rw (c.leaving.ensures, to_z-of_z fl) refl in
    let r : nat_abs c.leaving.result ≤ reach = rw q (leaving_size a.size a.at.held a.w.last c.requires.last) in
    let fd : SFits w64 (a.at.total -ℤ c.leaving.result) = fits64 (a.at.total -ℤ c.leaving.result) (omega (arith, less_size a.at.total c.leaving.result t r)) in
    let fw : SFits w64 (a.at.total -ℤ c.leaving.result +ℤ a.value) = with_fits a.at.total c.leaving.result a.value t r c.requires.value in
    let s : same_number a.at.total a.w.sum ≡ true = rw e (same_number_refl a.w.sum) in
    simp to_z-of_z (rw q (conclude_met a.size a.at a.value a.w (λ j. eq-eqb a.w.unmatched 0 c.if-w-ne0.false j && s j)))
