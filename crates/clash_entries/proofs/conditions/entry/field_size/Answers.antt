use Rattle.std.proofs.Common.{arith}
use Rattle.clash_entries.specs.conditions.EntryConditions.{field_size}
use Rattle.clash_entries.proofs.conditions.entry.field_size.Goals as goal

pub returns : goal.returns
unfolding field_size
returns c = (omega (arith, c.byte_at-high.ensures.0, c.byte_at-low.ensures.0), omega arith, omega arith)
