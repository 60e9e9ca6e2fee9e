use Rattle.run_moves.specs.Passing.{resumed, resumed_whole}
use Rattle.theory_program.specs.Addresses.{segment_at}
use Rattle.theory_program.specs.WordsStand.{stands_within}
use mathlib.Core.Path.{◌≡◌, sym, ◌∙◌}
use Rattle.meaning.specs.Grammar.{whole, place_production}
use native.Mathlib.Omega.{arith}
use Rattle.run_moves.proofs.resume.Goals.{Else-production-eq-WHOLE}
use Rattle.run_moves.proofs.resume.Goals as goal

-- the place is not the whole segment's
inner : (c : Else-production-eq-WHOLE) → place_production c.args.place ≡ whole → ⊥
inner c e = c.if-production-eq-WHOLE.false (c.production-production.ensures ∙ e)

pub returns-then-production-eq-WHOLE : goal.returns-then-production-eq-WHOLE
returns-then-production-eq-WHOLE c = λ g b w t. c.passed.ensures ∙ resumed_whole b w _ t (sym c.production-production.ensures ∙ c.if-production-eq-WHOLE.true)

pub word_at-requires : goal.word_at-requires
word_at-requires c = omega (arith, stands_within (segment_at c.requires.begins))

pub word_at-body-requires : goal.word_at-body-requires
word_at-body-requires c =
    let e = c.before.before in
    let p = e.requires in
    rw (c.word_at.ensures.0, e.production-production.ensures) (resumed p.begins p.well_formed _ p.waiting (inner (record { before = e; type_inv = record { program = e.shared_slice_known-1.given } }))).body_inside

pub word_at-requires-2 : goal.word_at-requires-2
word_at-requires-2 c =
    let body = c.before.before in
    let records = body.before in
    let e = records.before in
    let p = e.requires in
    rw (c.passed-2.ensures, body.word_at-body.ensures.0, records.word_at.ensures.0, e.production-production.ensures) (resumed p.begins p.well_formed _ p.waiting (inner (record { before = e; type_inv = record { program = e.shared_slice_known-1.given } }))).expect_inside

pub returns : goal.returns
returns c =
    let body = c.before.before.before in
    let records = body.before in
    let e = records.before in
    λ g b w t. c.word_at-2.ensures.0 ∙ rw (c.passed-2.ensures, body.word_at-body.ensures.0, records.word_at.ensures.0, e.production-production.ensures) (resumed b w _ t (inner (record { before = e; type_inv = record { program = e.shared_slice_known-1.given } }))).address
