use Rattle.std.proofs.Common.{◌≡◌, ◌+◌, ◌-◌, ◌*◌}
use Rattle.meaning.specs.Base.{all}
use Rattle.meaning.specs.Value.{in_range}
use Rattle.theory_judge.specs.Longs.{longs}
use Rattle.judge_nodes.proofs.numbers.are_values.Given as goal

abbrev pub invariant-loop-i : goal.invariant-loop-i
invariant-loop-i l = all in_range (longs l.bytes l.at l.n) ≡ all in_range (longs l.bytes (l.at + 8 * l.i) (l.n - l.i))
