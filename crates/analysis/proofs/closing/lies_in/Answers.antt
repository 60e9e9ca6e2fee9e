use Rattle.std.proofs.Common.{rules}
use Rattle.analysis.specs.Bits.{covers}
use Rattle.analysis.proofs.closing.lies_in.Goals as goal

pub returns : goal.returns
returns c = rw (c.eq.ensures, c.union.ensures.word) (covers _ _ (search rules) (search rules))
