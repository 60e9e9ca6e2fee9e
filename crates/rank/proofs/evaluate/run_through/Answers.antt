use native.Mathlib.Omega.{arith}
use Rattle.run_fit.specs.HasProgram.{header_inside}
use Rattle.rank.specs.evaluate.Ran.{start_running, failed_ran, next_running, next_ending, finished_ran}
use Rattle.rank.proofs.evaluate.run_through.Goals as goal

pub word_at-requires : goal.word_at-requires
word_at-requires c = omega (arith, header_inside c.requires.1.shown)

pub feed-requires : goal.feed-requires
feed-requires c = let w = c.word_at in (start_running c.requires.1 c.requires.0 w.result w.ensures.0, c.requires.2)

pub finish-ended-requires : goal.finish-ended-requires
finish-ended-requires c =
    let f = c.feed in
    let w = c.word_at in
    next_running c.requires.1 c.requires.0 w.result w.ensures.0 c.args.kinds.now c.args.values.now f.new.registers f.new.places f.result f.ensures c.in-Ok.next c.in-Ok.is

pub finished-requires : goal.finished-requires
finished-requires c =
    let f = c.feed in
    let w = c.word_at in
    let e = c.finish-ended in
    next_ending c.requires.1 c.requires.0 w.result w.ensures.0 c.args.kinds.now c.args.values.now f.new.registers f.new.places f.result f.ensures c.in-Ok.next c.in-Ok.is e.new.registers e.new.places e.result e.ensures

pub returns-in-Ok : goal.returns-in-Ok
returns-in-Ok c =
    let f = c.feed in
    let w = c.word_at in
    let e = c.finish-ended in
    finished_ran c.requires.1 c.requires.0 w.result w.ensures.0 c.args.kinds.now c.args.values.now f.new.registers f.new.places f.result f.ensures c.in-Ok.next c.in-Ok.is e.new.registers e.new.places e.result e.ensures c.finished.result c.finished.ensures

pub returns-in-Err : goal.returns-in-Err
returns-in-Err c =
    let f = c.feed in
    let w = c.word_at in
    failed_ran c.requires.1 c.requires.0 w.result w.ensures.0 c.args.kinds.now c.args.values.now f.new.registers f.new.places f.result f.ensures c.in-Err.failed c.fed.result c.in-Err.is c.fed.ensures
