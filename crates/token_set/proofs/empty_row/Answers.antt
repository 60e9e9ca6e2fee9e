use Rattle.token_set.specs.SetBits.{set_empty}
use Rattle.token_set.proofs.empty_row.Goals as goal

pub returns : goal.returns
returns c = set_empty
