-- The ways of the test of two productions' intervals.
use Prim.Native.Nat.{ℕ, ◌+◌, ◌*◌, ◌≤◌, ◌<◌, min, max}
use native.Mathlib.Omega.{arith}
use mathlib.Core.Path.{◌≡◌, sym}
use mathlib.Core.Bool.{Bool, true, false}
use mathlib.Core.List.{List}
use borrow.Author.Tests.{lt-leb}
use lib.Dec.{leb, le→leb}
use lib.ListN.{get_or}
use Rattle.meaning.specs.Limits.{attributes_limit}
use Rattle.meaning.specs.Base.{all, count_from}
use Rattle.theory_base.specs.Members.{T→true, same_truth}
use Rattle.analysis.specs.Numbers.{all_count_lem, count_all}
use Rattle.clash_rivals.specs.intervals.Intervals.{leave_values}

module _ (lows highs : List ℕ) (p q : ℕ) where
  -- the higher of the low ends, the lower of the high ends
  abbrev from : ℕ → ℕ
  from a = max (get_or lows (attributes_limit * p + a) 0) (get_or lows (attributes_limit * q + a) 0)

  abbrev to : ℕ → ℕ
  to a = min (get_or highs (attributes_limit * p + a) 0) (get_or highs (attributes_limit * q + a) 0)

  -- both leave some value to the attribute a
  abbrev pub Shared : ℕ → Type 0
  Shared a = from a ≤ to a

  abbrev overlap_at : ℕ → Bool
  overlap_at a = leb (from a) (to a)

  pub values_left : ((a : ℕ) → a < attributes_limit → Shared a) → true ≡ leave_values lows highs p q
  unfolding leave_values
  values_left k = sym (T→true _ (all_count_lem overlap_at 0 attributes_limit (λ a l m. le→leb _ _ (k a m))))

  pub none_left : (a : ℕ) → a < attributes_limit → to a < from a → false ≡ leave_values lows highs p q
  unfolding leave_values
  none_left a l h = same_truth false (all overlap_at (count_from 0 attributes_limit)) (λ t. absurd t) (λ t. rw (lt-leb (from a) (to a) h) at (count_all overlap_at 0 attributes_limit t a (omega arith) l))
