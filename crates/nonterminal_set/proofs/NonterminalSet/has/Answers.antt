use Rattle.token_set.specs.SetBits.{has_test}
use Rattle.nonterminal_set.proofs.NonterminalSet.has.Goals as goal

pub returns : goal.returns
returns c = has_test _ _ c.requires
