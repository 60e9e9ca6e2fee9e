use Rattle.std.proofs.Common.{◌≡◌, map, take, drop, ◌++◌, pos}
use Rattle.window_cells.proofs.put.Given as goal

abbrev pub invariant-loop-i : goal.invariant-loop-i
invariant-loop-i l = l.cells ≡ map pos (take l.i l.from) ++ drop l.i l.initial.cells
