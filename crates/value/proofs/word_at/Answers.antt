use Rattle.std.proofs.Common.{◌+◌, sym, arith}
use lib.ListN.{get_or-eq_default}
use Rattle.value.specs.Constants.{word_past}
use Rattle.value.proofs.word_at.Goals as goal

pub returns-then-len-at : goal.returns-then-len-at
returns-then-len-at c = sym (word_past c.args.bytes.now c.args.at c.if-len-at.true)

pub returns : goal.returns
returns c =
    let s = c.args in
    omega (arith, get_or-eq_default s.bytes.now 0 {n = s.at + 3} (omega arith))
