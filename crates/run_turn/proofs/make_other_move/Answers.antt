use Rattle.theory_program.specs.Parts.{head_operation}
use Prim.Native.Nat.{◌-◌}
use native.Mathlib.Omega.{arith}
use mathlib.Core.Path.{◌≡◌, refl, sym, ap, ◌∙◌}
use Rattle.std.specs.Prelude.{Ok, Err}
use Rattle.std.proofs.lemmas.Result.{err_from_is_err_and}
use Rattle.meaning.specs.Program.{nothing_operation}
use Rattle.meaning.specs.Machine.{ends}
use lib.ListN.{get_or}
use Rattle.run_moves.specs.Held.{bounds}
use Rattle.run_looking.specs.Judging.{looks_ahead}
use Rattle.run_next_token.specs.Operations.{number_most}
use Rattle.run_next_token.specs.Turns.{turned_quiet}
use Rattle.run_turn.specs.Stages.{AddOrEvaluate, some, none, stage_turned}
use Rattle.run_turn.proofs.make_other_move.Goals as goal

pub word_at-requires : goal.word_at-requires
word_at-requires c = (bounds c.requires.0.running.held).inside

pub at_limit-requires : goal.at_limit-requires
at_limit-requires c = (c.requires.1, c.if-run-eq-MOVES_LIMIT.true)

pub returns-then-run-eq-MOVES_LIMIT : goal.returns-then-run-eq-MOVES_LIMIT
returns-then-run-eq-MOVES_LIMIT c =
    let a = c.args in
    let l = a.limits in (
      stage_turned (AddOrEvaluate a.program.now) l.bound l.most a.program.now a.kinds.now a.values.now (a.run.tokens - l.from) a.registers.now a.places.now a.run a.registers.now a.places.now c.at_limit.result
          (c.at_limit.ensures a.program.now a.registers.now a.places.now a.values.now c.requires.0 (sym (c.operation-operation.ensures ∙ ap head_operation c.word_at.ensures.0))),
      c.requires.2,
    )

pub predict_next-requires : goal.predict_next-requires
predict_next-requires c =
    let p = c.requires in
    ((c.args.values.now, p.0), sym (c.operation-operation.ensures ∙ ap head_operation c.word_at.ensures.0) ∙ c.if-operation-eq-PREDICT.true, omega (arith, (bounds p.0.running.held).moves, c.if-run-eq-MOVES_LIMIT.false), p.1, p.2)

pub returns-then-operation-eq-PREDICT : goal.returns-then-operation-eq-PREDICT
returns-then-operation-eq-PREDICT c =
    let a = c.args in
    let l = a.limits in (
      stage_turned (AddOrEvaluate a.program.now) l.bound l.most a.program.now a.kinds.now a.values.now (a.run.tokens - l.from) a.registers.now a.places.now a.run a.registers.now c.predict_next.new.places c.predict_next.result
          (c.predict_next.ensures.0 a.values.now c.requires.0.even),
      c.predict_next.ensures.1,
    )

pub read_next-requires : goal.read_next-requires
read_next-requires c =
    let p = c.requires in
    (p.0, sym (c.operation-operation.ensures ∙ ap head_operation c.word_at.ensures.0) ∙ c.if-operation-eq-READ.true, omega (arith, (bounds p.0.running.held).moves, c.if-run-eq-MOVES_LIMIT.false), p.1)

pub returns-then-operation-eq-READ : goal.returns-then-operation-eq-READ
returns-then-operation-eq-READ c =
    let a = c.args in
    let l = a.limits in
    (stage_turned (AddOrEvaluate a.program.now) l.bound l.most a.program.now a.kinds.now a.values.now (a.run.tokens - l.from) a.registers.now a.places.now a.run c.read_next.new.registers c.read_next.new.places c.read_next.result c.read_next.ensures, c.requires.2)

pub returns-then-operation-lt-READ : goal.returns-then-operation-lt-READ
returns-then-operation-lt-READ c = (none refl refl refl (omega (arith, c.if-operation-lt-READ.true, c.operation-operation.ensures ∙ ap head_operation c.word_at.ensures.0)), c.requires.2)

pub test-requires : goal.test-requires
test-requires c =
    let r = c.requires.0.running in
    record { grammar = r.grammar; lent = r.lent; config = r.config; held = r.held; limit = omega (arith, (bounds r.held).moves, c.if-run-eq-MOVES_LIMIT.false); operation = sym (c.operation-operation.ensures ∙ ap head_operation c.word_at.ensures.0) ∙ c.if-operation-eq-TEST.true }

pub returns-in_err-test : goal.returns-in_err-test
returns-in_err-test c =
    let a = c.args in
    let l = a.limits in
    let p = err_from_is_err_and c.from_residual.result c.from_residual.ensures.1 in (
      rw (p.1, p.2) (turned_quiet l.bound l.most a.program.now a.kinds.now a.values.now a.registers.now a.places.now a.run (a.run.tokens - l.from) c.requires.0.even a.registers.now c.test.new.places (Err c.in_err-test.field-0.0)
          (ap looks_ahead (sym (c.operation-operation.ensures ∙ ap head_operation c.word_at.ensures.0) ∙ c.if-operation-eq-TEST.true)) (c.in_err-test.ensures ends)),
      c.requires.2,
    )

pub returns-then-operation-eq-TEST : goal.returns-then-operation-eq-TEST
returns-then-operation-eq-TEST c =
    let a = c.args in
    let l = a.limits in (
      some (turned_quiet l.bound l.most a.program.now a.kinds.now a.values.now a.registers.now a.places.now a.run (a.run.tokens - l.from) c.requires.0.even a.registers.now c.test.new.places (Ok c.in_ok-test.field-0)
          (ap looks_ahead (sym (c.operation-operation.ensures ∙ ap head_operation c.word_at.ensures.0) ∙ c.if-operation-eq-TEST.true)) (c.in_ok-test.ensures ends)),
      c.requires.2,
    )

pub remove-requires : goal.remove-requires
remove-requires c =
    let r = c.requires.0.running in
    (record { grammar = r.grammar; lent = r.lent; config = r.config; held = r.held; limit = omega (arith, (bounds r.held).moves, c.if-run-eq-MOVES_LIMIT.false); operation = sym (c.operation-operation.ensures ∙ ap head_operation c.word_at.ensures.0) ∙ c.if-operation-eq-REMOVE.true }, c.requires.2)

pub returns-in_err-remove : goal.returns-in_err-remove
returns-in_err-remove c =
    let a = c.args in
    let l = a.limits in
    let p = err_from_is_err_and c.from_residual-in_err-remove.result c.from_residual-in_err-remove.ensures.1 in (
      rw (p.1, p.2) (turned_quiet l.bound l.most a.program.now a.kinds.now a.values.now a.registers.now a.places.now a.run (a.run.tokens - l.from) c.requires.0.even c.remove.new.registers c.remove.new.places (Err c.in_err-remove.field-0.0)
          (ap looks_ahead (sym (c.operation-operation.ensures ∙ ap head_operation c.word_at.ensures.0) ∙ c.if-operation-eq-REMOVE.true)) (c.in_err-remove.ensures.0 ends)),
      c.in_err-remove.ensures.1,
    )

pub returns-then-operation-eq-REMOVE : goal.returns-then-operation-eq-REMOVE
returns-then-operation-eq-REMOVE c =
    let a = c.args in
    let l = a.limits in (
      some (turned_quiet l.bound l.most a.program.now a.kinds.now a.values.now a.registers.now a.places.now a.run (a.run.tokens - l.from) c.requires.0.even c.remove.new.registers c.remove.new.places (Ok c.in_ok-remove.field-0)
          (ap looks_ahead (sym (c.operation-operation.ensures ∙ ap head_operation c.word_at.ensures.0) ∙ c.if-operation-eq-REMOVE.true)) (c.in_ok-remove.ensures.0 ends)),
      c.in_ok-remove.ensures.1,
    )

pub nothing_next-requires : goal.nothing_next-requires
nothing_next-requires c = c.requires.1

pub returns : goal.returns
returns c =
    let a = c.args in
    let l = a.limits in
    let e = c.operation-operation.ensures ∙ ap head_operation c.word_at.ensures.0 in
    let z : head_operation (get_or a.program.now a.run.at 0) ≡ nothing_operation = omega (arith, c.if-operation-eq-REMOVE.false, c.if-operation-eq-TEST.false, c.if-operation-lt-READ.false, c.if-operation-eq-READ.false, c.if-operation-eq-PREDICT.false, e, number_most c.requires.0.running.held) in (
      stage_turned (AddOrEvaluate a.program.now) l.bound l.most a.program.now a.kinds.now a.values.now (a.run.tokens - l.from) a.registers.now a.places.now a.run a.registers.now a.places.now c.nothing_next.result
          (c.nothing_next.ensures a.program.now a.registers.now a.places.now a.values.now c.requires.0 z),
      c.requires.2,
    )
