use Rattle.std.proofs.Common.{sym, rules}
use lib.ListN.{get_or-eq_default}
use Rattle.value.proofs.byte_at.Goals as goal

pub returns-then-bytes-at : goal.returns-then-bytes-at
returns-then-bytes-at c = (sym (get_or-eq_default c.args.bytes.now 0 {n = c.args.at} c.if-bytes-at.true), search rules)
