use lib.Seq.{set_out}
use native.Mathlib.Omega.{arith}
use mathlib.Core.Path.{sym}
use Rattle.sheet.proofs.tree.written.put.Goals as goal

pub returns-else-at-sheet : goal.returns-else-at-sheet
returns-else-at-sheet c = sym (set_out _ _ _ (omega (arith, c.if-at-sheet.false)))
