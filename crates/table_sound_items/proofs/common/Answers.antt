use mathlib.Core.Path.{refl}
use native.Mathlib.Omega.{arith}
use Rattle.table_sound_items.proofs.Full.{four_full}
use Rattle.table_sound_items.proofs.common.Goals as goal

pub returns : goal.returns
returns c = four_full c.args.settled.now c.args.from _ _ _ _ refl refl refl refl (omega arith) (omega arith) (omega arith) (omega arith)
