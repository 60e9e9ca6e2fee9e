-- A table whose plan is known, written.
use Prim.Native.Nat.{ℕ, ◌≤◌}
use native.Mathlib.Omega.{arith}
use mathlib.Core.Path.{◌≡◌, ap₂, ◌∙◌}
use mathlib.Core.List.{List, ◌++◌}
use lib.ListN.{get_or, take}
use Rattle.meaning_house.specs.House.{writing}
use Rattle.theory_order.specs.Planning.{copied}
use Rattle.house_plan.specs.Plans.{TablePlanned}
use Rattle.house_write.specs.Answers.{house_is}
use Rattle.house.specs.Answers.{PlanReady}
use Rattle.std.specs.Prelude.{Result}
use Rattle.refusals.specs.declared.CallRefusal.{CallRefusal}

-- ---- a table that is ready to be written

module _ (t offsets : List ℕ) (count size : ℕ) (x : PlanReady t offsets count size) where
  module _ (plan : List ℕ) (r : ℕ) (g : TablePlanned t (take count offsets) plan r) where
    pub ready_few : r ≤ size
    ready_few = omega (arith, (g x.plan x.room x.planned).1, x.fits)

    pub ready_writes : (first : ℕ) → first ≡ get_or offsets 0 0 → (out out' : List ℕ) (w : Result ℕ CallRefusal) → house_is w out' ≡ writing (take first t ++ copied t (take r plan)) out → house_is w out' ≡ writing (take (get_or offsets 0 0) t ++ copied t x.plan) out
    ready_writes first e out out' w q = q ∙ ap₂ (λ u v. writing (take u t ++ copied t v) out) e (g x.plan x.room x.planned).0
