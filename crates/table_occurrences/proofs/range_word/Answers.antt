use native.Mathlib.Omega.{arith}
use Rattle.table_occurrences.proofs.Ranges.{power_order, range_code}
use Rattle.table_occurrences.proofs.range_word.Goals as goal

pub overflow_sub-result : goal.overflow_sub-result
overflow_sub-result c = omega (arith, power_order _ _ c.requires.0 c.requires.1)

pub returns : goal.returns
returns c = range_code _ _ c.requires.0 c.requires.1
