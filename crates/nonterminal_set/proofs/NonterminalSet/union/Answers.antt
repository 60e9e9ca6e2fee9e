use mathlib.Core.Path.{refl}
use Rattle.token_set.specs.SetBits.{set_or}
use Rattle.nonterminal_set.proofs.NonterminalSet.union.Goals as goal

pub returns : goal.returns
returns c = record { set = set_or _ _; word = refl }
