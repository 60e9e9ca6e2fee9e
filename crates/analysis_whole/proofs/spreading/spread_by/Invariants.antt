use Rattle.std.proofs.Common.{◌*◌}
use Rattle.analysis.specs.Spreading.{Turned}
use Rattle.analysis_whole.proofs.spreading.spread_by.Given as goal

abbrev pub invariant-loop-pair : goal.invariant-loop-pair
invariant-loop-pair l = Turned l.k l.initial.edges l.initial.edges l.edges (2 * l.pair) × Turned l.k l.initial.edges l.initial.sets l.sets (2 * l.pair)
