use Rattle.token_set.specs.SetBits.{set_end}
use Rattle.token_set.proofs.end_row.Goals as goal

pub returns : goal.returns
returns c = set_end
