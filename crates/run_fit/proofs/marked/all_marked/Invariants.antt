use Prim.Native.Nat.{◌-◌, ◌≤◌}
use mathlib.Core.Path.{◌≡◌}
use mathlib.Core.Bool.{◌&&◌}
use mir.Syntax.{w64}
use mir.Val.{of_z}
use lib.ListN.{length, drop}
use Rattle.meaning.specs.Base.{all}
use Rattle.meaning.specs.Calls.{is_mark}
use Rattle.run_fit.specs.cells.Gathering.{no_bits_value}
use Rattle.run_fit.proofs.marked.all_marked.Given as goal

abbrev pub invariant-loop-i : goal.invariant-loop-i
invariant-loop-i l = (l.i ≤ length l.cells) × (all is_mark l.cells ≡ no_bits_value (of_z w64 l.d0) (of_z w64 l.d1) (of_z w64 l.d2) (of_z w64 l.d3) (of_z w64 l.d4) (of_z w64 l.d5) (of_z w64 l.d6) (of_z w64 l.d7) && all is_mark (drop l.i l.cells))

abbrev pub decreases-loop-i : goal.decreases-loop-i
decreases-loop-i l = length l.cells - l.i
