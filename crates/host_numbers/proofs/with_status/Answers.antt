use mathlib.Core.Path.{ap, ◌∙◌}
use Rattle.meaning_inner.specs.Inner.{with_status}
use Rattle.records.specs.Records.{state_is}
use Rattle.host_numbers.specs.Lent.{status_closed, status_waiting, status_open}
use Rattle.host_numbers.proofs.with_status.Goals as goal

pub returns-then-number-eq0 : goal.returns-then-number-eq0
returns-then-number-eq0 c =
    let a = c.args in
    ap state_is c.closed.ensures ∙ ap (λ z. with_status z (state_is a.state)) (status_closed c.if-number-eq0.true)

pub returns-then-number-eq2 : goal.returns-then-number-eq2
returns-then-number-eq2 c =
    let a = c.args in
    ap state_is c.waiting.ensures ∙ ap (λ z. with_status z (state_is a.state)) (status_waiting c.if-number-eq0.false c.if-number-eq2.true)

pub returns : goal.returns
returns c =
    let a = c.args in
    ap state_is c.resumed.ensures ∙ ap (λ z. with_status z (state_is a.state)) (status_open c.if-number-eq0.false c.if-number-eq2.false)
