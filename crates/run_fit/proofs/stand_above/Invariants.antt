use Prim.Native.Nat.{◌+◌, ◌-◌, ◌≤◌, ◌<◌}
use mathlib.Core.Path.{◌≡◌}
use lib.ListN.{length, drop}
use Rattle.meaning.specs.Grammar.{Grammar, nonterminal}
use Rattle.run_fit.specs.HasProgram.{HasProgram, wait_at}
use Rattle.run_fit.proofs.Places.{stands, follow}
use Rattle.run_fit.proofs.stand_above.Given as goal

abbrev pub invariant-loop-i : goal.invariant-loop-i
invariant-loop-i l =
    (l.reached ≤ length l.registers + 1) × (l.below < 4294967296 → l.word ≡ wait_at l.program l.below) × ((g : Grammar) → HasProgram g l.program → stands g (nonterminal g.start) (drop 1 l.places) l.registers l.at ≡ follow g l.word (drop l.i l.places) l.registers l.reached)

abbrev pub decreases-loop-i : goal.decreases-loop-i
decreases-loop-i l = length l.places - l.i
