use Rattle.meaning.specs.Limits.{area_length}
use Rattle.program_words.specs.Sections as S
use Prim.Native.Nat.{◌≤◌}
use mathlib.Core.Path.{◌≡◌}
use lib.ListN.{length}
use Rattle.outline.specs.Outline.{grammar_in}
use Rattle.program.proofs.productions.write_each.Given as goal

abbrev pub invariant-loop-p : goal.invariant-loop-p
invariant-loop-p l =
    (l.count ≡ l.sizes.productions) × (l.at ≤ area_length) × (length l.links ≡ length l.initial.links) × S.ProductionsPart (grammar_in l.table) l.initial.area l.p l.area l.at l.body
