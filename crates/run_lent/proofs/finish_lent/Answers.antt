use Rattle.run_lent.specs.Performing.{judged_fitting, judged_running, finish_ending, finish_made}
use Rattle.run_lent.proofs.finish_lent.Goals as goal

pub run_of-run-requires : goal.run_of-run-requires
run_of-run-requires c = (c.args.registers.now, judged_fitting c.requires)

pub finish-ended-requires : goal.finish-ended-requires
finish-ended-requires c = judged_running c.requires c.run_of-run.result c.run_of-run.ensures

pub finished-requires : goal.finished-requires
finished-requires c =
    let f = c.finish-ended in
    finish_ending c.requires c.run_of-run.result c.run_of-run.ensures f.new.registers f.new.places f.result f.ensures

pub returns : goal.returns
returns c =
    let f = c.finish-ended in
    finish_made c.requires c.run_of-run.result c.run_of-run.ensures f.new.registers f.new.places f.result f.ensures c.finished.result c.finished.ensures
