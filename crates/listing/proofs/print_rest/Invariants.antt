-- The buffer keeps its length; fewer lines are left behind each page.
use Rattle.std.proofs.Common.{length, ◌≡◌}
use Rattle.listing_text.specs.Cursors.{lines_left}
use Rattle.listing.proofs.print_rest.Given as goal

abbrev pub invariant-loop-c : goal.invariant-loop-c
invariant-loop-c g l = length l.out ≡ length l.initial.out

abbrev pub decreases-loop-c : goal.decreases-loop-c
decreases-loop-c g l = length (lines_left l.program l.c)
