use Rattle.std.proofs.Common.{◌-◌}
use Rattle.window_found.specs.Gathering.{Walking}
use Rattle.window_walk.proofs.walk_back.Given as goal

abbrev pub invariant-loop : goal.invariant-loop
invariant-loop l = Walking l.slots l.area l.at l.value (l.at.held - l.counter) l.w l.leaders
