use native.Mathlib.Omega.{arith}
use lib.Bits.{and_le_r}
use Rattle.table_occurrences.proofs.note_byte.Goals as goal

pub overflow_cast-result : goal.overflow_cast-result
overflow_cast-result c = omega (arith, and_le_r c.args.word c.args.outputs)
