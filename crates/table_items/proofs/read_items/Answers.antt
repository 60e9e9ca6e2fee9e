use Rattle.table_rules.proofs.Faults.{err_passed}
use Rattle.table_items.specs.Progress.{ItemsRead}
use Rattle.table_items.proofs.Walking.{walk_then, walk_over}
use Rattle.table_items.proofs.read_items.Goals as goal

pub returns-in_err-done-clause-read : goal.returns-in_err-done-clause-read
returns-in_err-done-clause-read c = λ start p q h.
    err_passed (ItemsRead _ start p q) c.from_residual.result _ c.from_residual.ensures.1 (c.in_err-done.ensures.0 c.args.offset start p q (c.loop-note.invariant.walked start p q h))

pub loop-note-preserved : goal.loop-note-preserved
loop-note-preserved c = walk_then _ _ _ _ _ _ _ _ _ _ _ _ _ _ _ _ _ c.loop-note.invariant (c.in_ok-done.ensures.onward _)

pub returns-clause-read : goal.returns-clause-read
returns-clause-read c =
    (walk_over _ _ _ _ _ _ _ _ _ _ _ _ _ c.loop-note.invariant (c.is_over.ensures.over c.loop-note-test.false) _ c.has_gap-gap.ensures.gap _ c.finish.ensures c.requires.2).read
