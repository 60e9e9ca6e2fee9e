use lib.ListN.{get_or-eq_default}
use Rattle.std.proofs.Common.{sym}
use Rattle.value.proofs.word_or_zero.Goals as goal

pub returns-then-words-at : goal.returns-then-words-at
returns-then-words-at c = sym (get_or-eq_default c.args.words.now 0 {n = c.args.at} c.if-words-at.true)
