use mathlib.Core.Path.{ap, ap₂, ◌∙◌}
use Rattle.records.specs.States.{with_kind}
use Rattle.inner.proofs.states.ended.Goals as goal

pub returns : goal.returns
returns c =
    let a = c.args in
    ap₂ (λ x y. record { outer = x; inner = y; answer = a.handed.answer }) c.resumed.ensures (c.like.ensures ∙ ap (with_kind a.inner.kind) c.closed.ensures)
