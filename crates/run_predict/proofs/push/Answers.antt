use mathlib.Core.Path.{refl}
use Rattle.run_predict.proofs.push.Goals as goal

pub returns : goal.returns
returns c = rw c.place.ensures refl
