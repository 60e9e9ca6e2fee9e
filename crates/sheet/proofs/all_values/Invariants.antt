use Rattle.sheet.specs.Calling.{FourTo}
use Rattle.sheet.proofs.all_values.Given as goal

abbrev pub invariant-loop-value : goal.invariant-loop-value
invariant-loop-value l = FourTo l.values l.value-index
