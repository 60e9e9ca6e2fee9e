use Rattle.token_set.specs.SetBits.{one_shifted, set_one}
use Rattle.nonterminal_set.proofs.NonterminalSet.of_nonterminal.Goals as goal

pub returns : goal.returns
returns c = rw (one_shifted c.args.n c.requires) (set_one _ c.requires)
