-- A stretch of registers, its cells tested.
use Prim.Native.Nat.{ℕ, ◌+◌, ◌-◌, ◌≤◌}
use native.Mathlib.Omega.{arith}
use mathlib.Core.Path.{◌≡◌, sym, ◌∙◌}
use mathlib.Core.Bool.{Bool, true, false}
use mathlib.Core.List.{List}
use lib.IntN.{ℤ}
use lib.ListN.{length, take, drop, replicate}
use Rattle.meaning.specs.Base.{all}
use Rattle.meaning.specs.Calls.{Cell, cell_fits}
use Rattle.run_fit.specs.past.Passing.{Passes, passes_met, passes_not}

module _ (vs : List ℤ) (c : Cell) (at n : ℕ) (fits : at + n ≤ length vs) (b : Bool) (e : b ≡ all (cell_fits c) (take (at + n - at) (drop at vs))) where
  tested : b ≡ all (cell_fits c) (take n (drop at vs))
  tested =
      let d : at + n - at ≡ n = omega arith in
      rw d at e

  pub stretch_met : b ≡ true → Passes vs (replicate n c) at (at + n)
  stretch_met q = passes_met vs c at n fits (sym tested ∙ q)

  pub stretch_not : b ≡ false → Passes vs (replicate n c) at (length vs + 1)
  stretch_not q = passes_not vs c at n fits (sym tested ∙ q)
