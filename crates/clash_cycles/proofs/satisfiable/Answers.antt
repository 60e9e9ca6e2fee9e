use native.Mathlib.Omega.{arith}
use mathlib.Core.Path.{ap, ◌∙◌}
use borrow.Author.Rules.{rules}
use Rattle.meaning.specs.Limits.{attributes_limit}
use Rattle.meaning.specs.Differences.{none_negative}
use Rattle.theory_differences.specs.Closing.{small_more, room}
use Rattle.theory_differences.specs.Decided.{limit}
use Rattle.clash_cycles.proofs.differences.Laws.{tested_is}
use Rattle.clash_cycles.proofs.satisfiable.Goals as goal

pub close-requires : goal.close-requires
close-requires c = (search rules, small_more limit (room attributes_limit) c.args.m (omega arith) c.requires)

pub returns : goal.returns
returns c = tested_is c.none_negative.result c.close.new.m c.none_negative.ensures ∙ ap none_negative c.close.ensures
