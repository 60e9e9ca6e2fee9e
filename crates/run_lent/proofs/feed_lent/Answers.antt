use mathlib.Core.Path.{ap, ◌∙◌}
use Rattle.records.specs.Records.{handed_is}
use Rattle.records.specs.States.{brought_back}
use Rattle.run_lent.specs.Performing.{judged_fitting, judged_running, feed_uneven, feed_made}
use Rattle.run_lent.proofs.feed_lent.Goals as goal

pub returns-then-kinds-values : goal.returns-then-kinds-values
returns-then-kinds-values c =
    let a = c.args in
    λ g s. ap (λ z. handed_is z a.registers.now a.places.now) (c.as_brought.ensures ∙ ap (brought_back a.brought) c.turned_back.ensures) ∙ feed_uneven c.requires a.kinds.now a.values.now c.if-kinds-values.true g s

pub run_of-run-requires : goal.run_of-run-requires
run_of-run-requires c = (c.args.registers.now, judged_fitting c.requires)

pub feed-requires : goal.feed-requires
feed-requires c =
    (judged_running c.requires c.run_of-run.result c.run_of-run.ensures, c.if-kinds-values.false)

pub returns : goal.returns
returns c =
    let f = c.feed in
    let a = c.args in
    feed_made c.requires c.run_of-run.result c.run_of-run.ensures a.kinds.now a.values.now c.if-kinds-values.false f.new.registers f.new.places f.result c.fed.result f.ensures c.fed.ensures
