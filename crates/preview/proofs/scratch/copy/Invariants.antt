use Rattle.std.proofs.Common.{◌≡◌}
use Rattle.preview.specs.scratch.Scratch.{copied_to}
use Rattle.preview.proofs.scratch.copy.Given as goal

abbrev pub invariant-loop-i : goal.invariant-loop-i
invariant-loop-i g l = l.to ≡ copied_to l.from l.initial.to l.i
