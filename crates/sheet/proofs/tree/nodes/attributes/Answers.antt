use native.Mathlib.Omega.{arith}
use Prim.Native.Nat.{◌+◌}
use mathlib.Core.Path.{sym, ap₂, ◌∙◌}
use Rattle.theory_program.specs.Addresses.{segment_at}
use Rattle.theory_program.specs.WordsStand.{stands_within}
use Rattle.run_moves.specs.Held.{bounds}
use Rattle.sheet.specs.tree.nodes.Counting.{two_places_lem, segment_counts, address_inside, word_counts}
use Rattle.sheet.proofs.tree.nodes.attributes.Goals as goal

pub overflow_sub-run : goal.overflow_sub-run
overflow_sub-run c = two_places_lem c.requires.held c.requires.stand

pub word_at-place-requires : goal.word_at-place-requires
word_at-place-requires c = omega (arith, two_places_lem c.requires.held c.requires.stand, (bounds c.requires.held).places)

pub word_at-requires : goal.word_at-requires
word_at-requires c = omega (arith, stands_within (segment_at c.requires.held.begins))

pub returns-then-place-eq-SEGMENT : goal.returns-then-place-eq-SEGMENT
returns-then-place-eq-SEGMENT c = λ g lent tokens m d o b bs h s.
    let x = segment_counts h s (sym c.word_at-place.ensures.0 ∙ c.if-place-eq-SEGMENT.true) in
    (x.0, c.word_at.ensures.0 ∙ x.1)

pub word_at-requires-2 : goal.word_at-requires-2
word_at-requires-2 c = omega (arith, stands_within (segment_at c.requires.held.begins))

pub word_at-requires-3 : goal.word_at-requires-3
word_at-requires-3 c = omega (arith, stands_within (segment_at c.requires.held.begins))

pub word_at-word-requires : goal.word_at-word-requires
word_at-word-requires c =
    let p = c.word_at-place.ensures.0 in
    omega (arith, address_inside c.requires.held c.requires.stand (λ z. c.if-place-eq-SEGMENT.false (p ∙ z)), c.word_at-2.ensures.0, c.word_at-3.ensures.0, p, c.production.ensures, c.passed.ensures)

pub returns : goal.returns
returns c = λ g lent tokens m d o b bs h s.
    let p = c.word_at-place.ensures.0 in
    let word = rw (c.passed.ensures, c.production.ensures) at c.word_at-word.ensures.0 in
    let x = word_counts h s (λ z. c.if-place-eq-SEGMENT.false (p ∙ z)) c.word_at-word.result (rw (sym p, sym c.word_at-2.ensures.0, sym c.word_at-3.ensures.0) word) in
    (c.wait_inherited-inherited.ensures ∙ x.0, ap₂ ◌+◌ c.wait_inherited-inherited.ensures c.wait_marked.ensures ∙ x.1)
