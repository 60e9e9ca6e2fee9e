use Rattle.analysis.specs.Firsts.{lefts_full}
use Rattle.analysis.specs.Closing.{free_none, tokens_none}
use Rattle.analysis.proofs.closing.nullable.Goals as goal

pub closure-requires : goal.closure-requires
closure-requires c = (c.requires.0, c.requires.1, free_none)

pub returns : goal.returns
returns c = rw tokens_none at (c.closure.ensures (lefts_full c.requires.0))
