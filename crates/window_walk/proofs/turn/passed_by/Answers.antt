use Rattle.std.proofs.Common.{arith, rules, ℤ, ◌*◌, ◌≤◌, T, ◌+ℤ◌, SFits, to_z-of_z}
use Rattle.std.specs.Prelude.{nat_abs}
use Rattle.std.specs.Int.{w64}
use Rattle.meaning.specs.Value.{in_range}
use Rattle.meaning_window.specs.Window.{window_limit}
use Rattle.value.specs.Overflow.{reach, fits64, in_range_size}
use Rattle.theory_base.specs.Absolute.{nat_abs_add}
use Rattle.theory_base.specs.Members.{T→true}
use Rattle.window_walk.proofs.turn.passed_by.Goals as goal

summed : (s x : ℤ) → nat_abs s ≤ reach * window_limit → T (in_range x) → SFits w64 (s +ℤ x)
summed s x l t = fits64 (s +ℤ x) (omega (arith, nat_abs_add s x, in_range_size x (T→true (in_range x) t), l))

pub overflow_add-result : goal.overflow_add-result
overflow_add-result c =
    let a = c.args in
    let f : SFits w64 a.w.sum = search rules in
    let g : SFits w64 a.value = search rules in
    simp to_z-of_z (summed a.w.sum a.value c.requires.0 c.requires.1)

pub returns : goal.returns
returns c =
    let a = c.args in
    let f : SFits w64 a.w.sum = search rules in
    let g : SFits w64 a.value = search rules in
    let t : SFits w64 a.w.top = search rules in
    let b : SFits w64 a.w.best = search rules in
    let n : SFits w64 (a.w.sum +ℤ a.value) = summed a.w.sum a.value c.requires.0 c.requires.1 in
    simp to_z-of_z
