use mathlib.Core.Path.{sym, subst}
use lib.ListN.{get_or}
use lib.Seq.{length-take-le}
use Rattle.sheet.specs.tree.steps.Numbers.{low}
use Rattle.sheet.specs.Segments.{Ended, Ends}
use Rattle.sheet.proofs.over.Goals as goal

pub slice_bounds-ended-end : goal.slice_bounds-ended-end
slice_bounds-ended-end c = sym (length-take-le _ _ c.requires.1)

pub ended-requires : goal.ended-requires
ended-requires c =
    let ws = c.args.program.now in
    let n = c.args.numbers.now in
    let m = c.args.registers.now in
    subst (λ z. Ended ws (low 6 n m) z) (sym c.run_of-run.ensures) c.requires.0

pub returns : goal.returns
returns c =
    let ws = c.args.program.now in
    let n = c.args.numbers.now in
    let m = c.args.registers.now in
    subst (λ z. Ends ws c.args.kinds.now (low 6 n m) z (get_or n 5 0) c.ended.result) c.run_of-run.ensures c.ended.ensures
