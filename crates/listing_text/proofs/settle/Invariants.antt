use Rattle.meaning.specs.Limits.{area_length}
use Rattle.listing_text.specs.Cursors.{lines_left}
use mathlib.Core.Path.{◌≡◌}
use Prim.Native.Nat.{◌-◌}
use Rattle.listing_text.proofs.settle.Given as goal

abbrev pub invariant-loop-c : goal.invariant-loop-c
invariant-loop-c l = lines_left l.program l.c ≡ lines_left l.program l.initial.c

abbrev pub decreases-loop-c : goal.decreases-loop-c
decreases-loop-c l = area_length - l.c.at
