use Rattle.std.proofs.Common.{arith, refl}
use Rattle.program_zeros.proofs.Patching.{patched}
use Rattle.program.proofs.segment.put.Goals as goal

pub returns : goal.returns
returns c = record { memory = patched c.args.area.now c.args.at _ _ c.args.words.now c.copy_from_slice.ensures.after (omega arith) (omega arith); address = refl }
