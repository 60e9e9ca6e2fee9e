use Rattle.std.proofs.Common.{sym, arith}
use Rattle.clash_entries.specs.conditions.BoundWords.{biased_signed}
use Rattle.clash_entries.proofs.conditions.entry.biased_word.Goals as goal

pub returns : goal.returns
returns c = sym (biased_signed c.args.word (omega (arith, c.ranges.word)))
