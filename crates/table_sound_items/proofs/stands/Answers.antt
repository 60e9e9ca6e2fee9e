use native.Mathlib.Omega.{arith}
use borrow.Author.Tests.{eqb-true}
use Rattle.table_sound_items.proofs.Fields.{whole_at}
use Rattle.table_sound_items.proofs.stands.Goals as goal

pub returns : goal.returns
returns c = λ e. whole_at c.args.table.now c.args.at c.args.size c.wide.result (omega arith) c.wide.ensures.0 (eqb-true c.wide.result c.args.size e) (omega arith)
