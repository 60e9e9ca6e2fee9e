use Rattle.std.proofs.Common.{arith}
use Rattle.std.proofs.lemmas.List.{get_or-take}
use Rattle.analysis.specs.Spreading.{united_next}
use Rattle.analysis_whole.proofs.spreading.union_of.Goals as goal

pub loop-entry-preserved : goal.loop-entry-preserved
loop-entry-preserved c =
    rw (c.union-out.ensures.word, get_or-take c.args.n c.args.table.now c.loop-entry.entry-index 0 (omega arith)) (united_next _ _ _ c.loop-entry.invariant)
