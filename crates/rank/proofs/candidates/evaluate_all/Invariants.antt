use mathlib.Core.Path.{◌≡◌}
use lib.ListN.{length}
use Rattle.rank.specs.candidates.Each.{DoneTo}
use Rattle.rank.proofs.candidates.evaluate_all.Given as goal

abbrev pub invariant-loop-i : goal.invariant-loop-i
invariant-loop-i l =
    DoneTo l.program l.lengths l.kinds l.values l.initial.list l.initial.registers l.initial.places l.i l.at l.list l.registers l.places l.a l.b × (length l.registers ≡ length l.initial.registers) × (length l.places ≡ length l.initial.places) × (length l.list ≡ length l.initial.list)
