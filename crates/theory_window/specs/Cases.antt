-- What the calls answer and leave, case by case.
use Rattle.std.specs.Prelude.{ℕ, ◌≡◌, true, false, ◌&&◌, length, ℤ}
use Rattle.std.proofs.Math.Path.{ap}
use Rattle.std.proofs.Math.Bool.{cond}
use mathlib.Core.List.{List, []}
use Rattle.meaning.specs.Value.{in_range}
use Rattle.meaning_window.specs.Window.{empty, turned_back, scan_of, after, size_in_value, next_in, values_in, size_fits, well_kept, outcome, written, opens_window, values_with, brings_value, brings_refusal}

module _ (n : ℕ) (b : List ℤ) where
  pub opens_not : size_fits n (length b) ≡ false → opens_window n b ≡ outcome turned_back b
  unfolding opens_window
  opens_not t = ap (λ x. cond x (outcome empty (written n 0 [] b)) (outcome turned_back b)) t

  pub opens_met : size_fits n (length b) ≡ true → opens_window n b ≡ outcome empty (written n 0 [] b)
  unfolding opens_window
  opens_met t = ap (λ x. cond x (outcome empty (written n 0 [] b)) (outcome turned_back b)) t

module _ (v : ℤ) (b : List ℤ) where
  pub value_not : (in_range v && well_kept b) ≡ false → brings_value v b ≡ outcome turned_back b
  unfolding brings_value
  value_not t = ap (λ x. cond x (outcome (scan_of (values_with v b)) (written (size_in_value b) (after (size_in_value b) (next_in b)) (values_with v b) b)) (outcome turned_back b)) t

  pub value_met : (in_range v && well_kept b) ≡ true → brings_value v b ≡ outcome (scan_of (values_with v b)) (written (size_in_value b) (after (size_in_value b) (next_in b)) (values_with v b) b)
  unfolding brings_value
  value_met t = ap (λ x. cond x (outcome (scan_of (values_with v b)) (written (size_in_value b) (after (size_in_value b) (next_in b)) (values_with v b) b)) (outcome turned_back b)) t

module _ (b : List ℤ) where
  pub state_not : well_kept b ≡ false → brings_refusal b ≡ turned_back
  unfolding brings_refusal
  state_not t = ap (λ x. cond x (scan_of (values_in b)) turned_back) t

  pub state_met : well_kept b ≡ true → brings_refusal b ≡ scan_of (values_in b)
  unfolding brings_refusal
  state_met t = ap (λ x. cond x (scan_of (values_in b)) turned_back) t
