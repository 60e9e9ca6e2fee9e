use mathlib.Core.Path.{ap}
use Rattle.inner.proofs.states.went_on.Goals as goal

pub returns : goal.returns
returns c = ap (λ y. record { outer = c.args.outer; inner = y; answer = c.args.handed.answer }) c.like.ensures
