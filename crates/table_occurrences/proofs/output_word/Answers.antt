use Prim.Native.Nat.{◌+◌}
use mathlib.Core.Path.{◌∙◌}
use native.Mathlib.Omega.{arith}
use Rattle.table_occurrences.proofs.Ranges.{range_small}
use Rattle.table_occurrences.proofs.Laws.{output_first, output_later}
use Rattle.table_occurrences.proofs.output_word.Goals as goal

pub returns-then-k-eq0 : goal.returns-then-k-eq0
returns-then-k-eq0 c =
    let small = range_small c.args.i (c.args.i + c.args.s) (omega arith) c.requires in
    (c.range_word.ensures ∙ output_first c.args.k c.args.i c.args.s c.if-k-eq0.true, omega (arith, small, c.range_word.ensures))

pub returns-else-k-eq0 : goal.returns-else-k-eq0
returns-else-k-eq0 c =
    let small = range_small 0 c.args.i (omega arith) (omega arith) in
    (c.range_word-else-k-eq0.ensures ∙ output_later c.args.k c.args.i c.args.s c.if-k-eq0.false, omega (arith, small, c.range_word-else-k-eq0.ensures))
