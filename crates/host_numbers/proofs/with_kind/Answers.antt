use mathlib.Core.Path.{ap, ◌∙◌}
use Rattle.meaning_inner.specs.Inner.{with_kind}
use Rattle.records.specs.Records.{state_is}
use Rattle.host_numbers.specs.Lent.{kind_inner, kind_outer}
use Rattle.host_numbers.proofs.with_kind.Goals as goal

pub returns-then-number-eq1 : goal.returns-then-number-eq1
returns-then-number-eq1 c =
    let a = c.args in
    ap state_is c.inside.ensures ∙ ap (λ z. with_kind z (state_is a.state)) (kind_inner c.if-number-eq1.true)

pub returns : goal.returns
returns c =
    let a = c.args in
    ap state_is c.alone.ensures ∙ ap (λ z. with_kind z (state_is a.state)) (kind_outer a.number a.registers a.places c.if-number-eq1.false)
