use mathlib.Core.Path.{ap}
use Rattle.inner.proofs.states.not_opened.Goals as goal

pub returns : goal.returns
returns c =
    let a = c.args in
    ap (λ y. record { outer = a.outer; inner = y; answer = a.answer }) c.nothing.ensures
