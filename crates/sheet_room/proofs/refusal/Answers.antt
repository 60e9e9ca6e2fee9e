use native.Mathlib.Omega.{arith}
use Rattle.sheet_room.specs.Room.{refuses, allows}
use Rattle.sheet_room.proofs.refusal.Goals as goal

pub returns-then-room-size : goal.returns-then-room-size
returns-then-room-size c = refuses _ _ (omega (arith, c.if-room-size.true))

pub returns-else-room-size : goal.returns-else-room-size
returns-else-room-size c = allows _ _ (omega (arith, c.if-room-size.false))
