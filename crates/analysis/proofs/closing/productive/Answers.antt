use Rattle.analysis.specs.Closing.{free_tokens, tokens_in_lem}
use Rattle.analysis.proofs.closing.productive.Goals as goal

pub closure-requires : goal.closure-requires
closure-requires c = (c.requires.0, c.requires.1, free_tokens)

pub returns : goal.returns
returns c = λ lefts. rw tokens_in_lem at (c.closure.ensures lefts)
