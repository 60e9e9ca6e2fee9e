use Prim.Native.Nat.{◌≤◌}
use mathlib.Core.Path.{◌≡◌}
use lib.ListN.{length}
use Rattle.listing_text.specs.Cursors.{lines_left}
use Rattle.listing_pages.proofs.Paging.{Filled}
use Rattle.listing_pages.proofs.next_page.Given as goal

abbrev pub invariant-loop-filled : goal.invariant-loop-filled
invariant-loop-filled l = Filled l.program l.initial.out l.initial.c l.out l.filled l.c × (length l.out ≡ length l.initial.out) × (l.filled ≤ length l.out)

abbrev pub decreases-loop-filled : goal.decreases-loop-filled
decreases-loop-filled l = length (lines_left l.program l.c)
