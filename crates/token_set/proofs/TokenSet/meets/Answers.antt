use borrow.Author.Rules.{rules}
use Rattle.token_set.specs.SetBits.{meet_test}
use Rattle.token_set.proofs.TokenSet.meets.Goals as goal

pub returns : goal.returns
returns c = meet_test _ _ (search rules)
