use Prim.Native.Nat.{ℕ, ◌≤◌, ◌<◌}
use mathlib.Core.Path.{◌≡◌}
use lib.ListN.{length}
use Rattle.outline.specs.Images.{Image, size_at}
use Rattle.set_words.specs.Views.{members}
use Rattle.analysis.specs.Follows.{BaseFrom, EdgeFrom, Behind, Rest, Upward}
use Rattle.analysis_whole.proofs.follow.Quiet.{Quiet}
use Rattle.analysis_whole.proofs.follow.behind_by.Given as goal

abbrev pub invariant-loop-i : goal.invariant-loop-i
invariant-loop-i l =
    (l.i ≤ size_at l.rows l.k) × (length l.table ≡ length l.initial.table) × (length l.edges ≡ length l.initial.edges)
    × Rest (members l.null.0) l.first l.rows l.k l.i l.rest.0 × Upward (members l.null.0) l.rows l.k l.i l.initial.up.0 l.up.0 × Quiet (members l.null.0) l.first l.quiet l.rest.0 l.up.0 l.table l.edges
    × ((count : ℕ) → Image l.rows count → l.k < count
    → Behind (members l.null.0) l.first l.rows count (λ u. BaseFrom (members l.null.0) l.first l.rows u l.k l.i) (EdgeFrom (members l.null.0) l.rows l.k l.i) l.initial.table l.initial.edges l.table l.edges)
