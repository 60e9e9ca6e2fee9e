use Rattle.run_predict.specs.alternatives.Predicting.{Leads, production_small, testable_of, leads_on_lem, fewer_turns, search_turn, search_stop}
use Rattle.run_moves.specs.Passing.{look_of}
use Rattle.run_registers.specs.Stack.{stack}
use Rattle.theory_program.specs.Search.{found}
use Rattle.theory_program.specs.Addresses.{segment_at}
use Rattle.theory_program.specs.WordsStand.{stands_within}
use mathlib.Core.Path.{refl, sym, ap, ◌∙◌}
use native.Mathlib.Omega.{arith}
use Rattle.run_predict.proofs.alternatives.later.Goals.{In-loop-p}
use Rattle.run_predict.proofs.alternatives.later.Goals as goal

-- the production at hand
lead : (c : In-loop-p) → let b = c.before.before.before.before in Leads b.requires.2.grammar b.args.program.now (stack b.args.height b.args.registers.now) b.requires.2.wanted c.loop-p.p
lead c = let q = c.requires.2 in (c.loop-p.invariant q.grammar q.wanted q.leads).0

pub loop-p-init : goal.loop-p-init
loop-p-init c = λ g n s. (s, refl)

pub record_of-row-requires : goal.record_of-row-requires
record_of-row-requires c = (omega (arith, stands_within (segment_at (lead c).begins)), omega (arith, c.loop-p-test.true), production_small (lead c) c.loop-p-test.true)

pub passes-requires : goal.passes-requires
passes-requires c = let b = c.requires in (b.0, rw c.record_of-row.ensures (testable_of (lead (record { before = c.before.before; type_inv = record { program = c.before.before.shared_slice_known-1.given } })) c.loop-p-test.true), b.1)

pub returns-then-passes : goal.returns-then-passes
returns-then-passes c = λ g n s. let k = c.loop-p.invariant g n s in
    search_stop k.0 c.loop-p-test.true c.args.look c.requires.1
    (rw c.record_of-row.ensures at (sym c.if-passes.true ∙ c.passes.ensures)) ∙ sym k.1

pub overflow_add-row : goal.overflow_add-row
overflow_add-row c = omega (arith, (testable_of (lead (record { before = c.before.before.before.before; type_inv = record { program = c.before.before.before.before.shared_slice_known-1.given } })) c.loop-p-test.true).inside, c.record_of-row.ensures)

pub word_at-p-requires : goal.word_at-p-requires
word_at-p-requires c = omega (arith, (testable_of (lead (record { before = c.before.before.before.before; type_inv = record { program = c.before.before.before.before.shared_slice_known-1.given } })) c.loop-p-test.true).inside, c.record_of-row.ensures)

pub loop-p-smaller : goal.loop-p-smaller
loop-p-smaller c = rw (c.word_at-p.ensures.0, c.record_of-row.ensures) (fewer_turns (lead (record { before = c.before.before.before.before.before; type_inv = record { program = c.before.before.before.before.before.shared_slice_known-1.given } })) c.loop-p-test.true)

pub loop-p-preserved : goal.loop-p-preserved
loop-p-preserved c = λ g n s.
    let k = c.loop-p.invariant g n s in
    rw (c.word_at-p.ensures.0, c.record_of-row.ensures) (
      leads_on_lem k.0 c.loop-p-test.true,
      k.1
          ∙ search_turn k.0 c.loop-p-test.true c.args.look c.requires.1
          (rw c.record_of-row.ensures at (sym c.if-passes.false ∙ c.passes.ensures)),
    )

pub returns : goal.returns
returns c = λ g n s. let b = c.args in sym ((c.loop-p.invariant g n s).1 ∙ ap (found g (stack b.height b.registers.now) n (look_of b.look)) c.loop-p-test.false)
