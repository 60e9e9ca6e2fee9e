-- A test on every element of a list, walked from the front.
use Prim.Native.Nat.{ℕ, zero, suc, ◌+◌, ◌-◌, ◌≤◌, ◌<◌}
use mathlib.Core.Path.{◌≡◌, refl, sym, ◌∙◌, ap}
use mathlib.Core.Bool.{Bool, true, false, ◌&&◌}
use mathlib.Core.List.{List}
use native.Mathlib.Omega.{arith}
use lib.ListN.{length, get_or}
use Rattle.theory_base.specs.Cells.{all_turn, all_end}
use Rattle.table_fields.specs.Judge.{all_from}

module _ (f : ℕ → Bool) (b : List ℕ) (k : ℕ) where
  one_more : k < length b → all_from f b k ≡ f (get_or b k 0) && all_from f b (k + 1)
  unfolding all_from
  one_more h = all_turn f b k 0 h

  pub all_pass : k < length b → f (get_or b k 0) ≡ true → all_from f b k ≡ all_from f b (k + 1)
  all_pass h e = one_more h ∙ ap (λ x. x && all_from f b (k + 1)) e

  pub all_fail : k < length b → f (get_or b k 0) ≡ false → all_from f b k ≡ false
  all_fail h e = one_more h ∙ ap (λ x. x && all_from f b (k + 1)) e

  pub all_none : length b ≤ k → all_from f b k ≡ true
  unfolding all_from
  all_none h = all_end f b k h

-- each number from the k-th on passes a test that all of them pass
module _ (f : ℕ → Bool) (b : List ℕ) where
  all_first : (k : ℕ) → all_from f b k ≡ true → k < length b → f (get_or b k 0) ≡ true
  all_first k e l = by (f (get_or b k 0)) refl
    where
      by : (x : Bool) → f (get_or b k 0) ≡ x → x ≡ true
      by true q = refl
      by false q = sym (all_fail f b k l q) ∙ e

  all_after : (n k i : ℕ) → i ≡ k + n → all_from f b k ≡ true → i < length b → f (get_or b i 0) ≡ true
  all_after zero k i w e l = let q : i ≡ k = omega arith in ap (λ (j : ℕ). f (get_or b j 0)) q ∙ all_first k e (omega arith)
  all_after (suc n) k i w e l = all_after n (k + 1) i (omega arith) (sym (all_pass f b k (omega arith) (all_first k e (omega arith))) ∙ e) l

  pub all_each : (k i : ℕ) → all_from f b k ≡ true → k ≤ i → i < length b → f (get_or b i 0) ≡ true
  all_each k i e l h = all_after (i - k) k i (omega arith) e h
