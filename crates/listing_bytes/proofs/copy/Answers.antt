use Rattle.std.proofs.Common.{arith}
use Rattle.listing_bytes.specs.Written.{wrote_part}
use Rattle.listing_bytes.proofs.copy.Goals as goal

pub returns : goal.returns
returns c = wrote_part c.args.out.now c.args.at _ _ c.args.text.now c.copy_from_slice.ensures.after (omega arith) (omega arith)
