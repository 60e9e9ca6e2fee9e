use native.Mathlib.Omega.{arith}
use borrow.Author.Tests.{eqb-true}
use Rattle.table_sound_items.proofs.Full.{others_full}
use Rattle.table_sound_items.proofs.others_full.Goals as goal

pub returns : goal.returns
returns c = λ e. others_full c.args.settled.now _ _ _ c.common-first.ensures c.common-second.ensures c.common-third.ensures (omega arith) (omega arith) (omega arith) (eqb-true _ 65535 e)
