use Rattle.token_set.specs.SetBits.{set_end}
use Rattle.nonterminal_set.proofs.tokens_row.Goals as goal

pub returns : goal.returns
returns c = set_end
