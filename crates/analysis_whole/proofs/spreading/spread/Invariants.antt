use lib.ListN.{length}
use mathlib.Core.Path.{◌≡◌}
use Rattle.meaning.specs.Limits.{nonterminals_limit}
use Rattle.analysis.specs.Tables.{Short}
use Rattle.analysis.specs.Spreading.{Spreading}
use Rattle.analysis_whole.proofs.spreading.spread.Given as goal

abbrev pub invariant-loop-k : goal.invariant-loop-k
invariant-loop-k l = (length l.edges ≡ nonterminals_limit) × (length l.sets ≡ nonterminals_limit) × (Short l.n l.initial.edges → Short l.n l.initial.sets → Spreading l.n l.used.0 l.initial.edges l.initial.sets l.edges l.sets l.k)
