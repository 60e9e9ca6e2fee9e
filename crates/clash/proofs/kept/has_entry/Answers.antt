use Prim.Native.Nat.{ℕ}
use mathlib.Core.Path.{refl, ap, ◌∙◌}
use mathlib.Core.Bool.{not}
use lib.Dec.{eqb}
use Rattle.clash.proofs.Laws.{stretch_slice}
use Rattle.clash.proofs.kept.has_entry.Goals as goal

pub narrow_by-kind-requires : goal.narrow_by-kind-requires
narrow_by-kind-requires c = (_, stretch_slice c.requires.1 _ refl)

pub returns : goal.returns
returns c =
    ap not (c.is_free.ensures ∙ ap (λ (n : ℕ). eqb n 0) (c.narrow_by-kind.ensures.said _ (stretch_slice c.requires.1 _ refl)))
