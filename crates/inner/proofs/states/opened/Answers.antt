use mathlib.Core.Path.{sym, ap, ap₂, ◌∙◌}
use Rattle.inner.specs.states.Records.{opened_by}
use Rattle.inner.proofs.states.opened.Goals as goal

pub returns-then-not-is_open : goal.returns-then-not-is_open
returns-then-not-is_open c =
    let a = c.args in
    let q = c.is_open in
    c.not_opened.ensures ∙ ap (λ b. opened_by b a.outer a.handed) (sym (sym q.ensures ∙ c.if-not-is_open.true))

pub returns : goal.returns
returns c =
    let a = c.args in
    let q = c.is_open in
    ap₂ (λ x y. record { outer = x; inner = y; answer = a.handed.answer }) c.waiting.ensures c.inside.ensures ∙ ap (λ b. opened_by b a.outer a.handed) (sym (sym q.ensures ∙ c.if-not-is_open.false))
