use mathlib.Core.Path.{◌≡◌}
use Prim.Native.Nat.{ℕ, ◌≤◌, ◌*◌}
use mathlib.Core.List.{List}
use lib.ListN.{length}
use Rattle.meaning.specs.Limits.{positions_limit}
use Rattle.program_body_words.specs.OfProduction.{OfProduction, Carried}
use Rattle.program_body_words.specs.Leveling as L
use Rattle.program_body_words.specs.Waiting as W
use Rattle.program_body_levels.proofs.find_levels.Given as goal

abbrev pub invariant-loop-k : goal.invariant-loop-k
invariant-loop-k l =
    (l.sum ≤ 256 * l.k) × (length l.levels ≡ positions_limit)
    × ((fs : List ℕ) (x : OfProduction l.row fs l.inherited l.synthesized) (y : Carried l.carrying.0 x.grammar) → L.LevelsGo x l.carrying.0 y l.k l.sum l.levels) × ((fs : List ℕ) → W.RowGo l.row fs l.inherited l.synthesized l.carrying.0 l.initial.area l.wait l.k l.sum l.area)
