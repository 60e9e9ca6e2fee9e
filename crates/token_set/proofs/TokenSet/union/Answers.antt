use mathlib.Core.Path.{refl}
use Rattle.token_set.specs.SetBits.{set_or}
use Rattle.token_set.proofs.TokenSet.union.Goals as goal

pub returns : goal.returns
returns c = record { set = set_or _ _; word = refl }
