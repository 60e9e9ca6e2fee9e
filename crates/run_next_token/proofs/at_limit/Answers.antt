use Prim.Native.Nat.{◌-◌}
use mathlib.Core.Path.{refl, sym, ap, ◌∙◌}
use Rattle.std.specs.Prelude.{Err}
use Rattle.std.proofs.lemmas.Result.{err_from_is_err_and}
use Rattle.meaning.specs.Machine.{ends}
use Rattle.refusals.specs.declared.Refusal.TheVariants.{LimitReached}
use Rattle.run_looking.specs.Judging.{looks_ahead}
use Rattle.run_next_token.specs.Operations.{blocked_limit, limit_answers}
use Rattle.run_next_token.specs.Turns.{turned_judged, turned_look, turned_quiet}
use Rattle.run_next_token.proofs.at_limit.Goals as goal

pub returns-then-operation-eq-NOTHING : goal.returns-then-operation-eq-NOTHING
returns-then-operation-eq-NOTHING c = λ ws m ps vs f e. c.nothing_next.ensures ws m ps vs f (e ∙ c.if-operation-eq-NOTHING.true)

pub returns-in_err-judged : goal.returns-in_err-judged
returns-in_err-judged c = λ ws m ps vs f e.
    let a = c.args in
    let looking = ap looks_ahead e ∙ (sym c.looks_ahead.ensures ∙ c.if-looks_ahead.true) in
    let p = err_from_is_err_and c.from_residual.result c.from_residual.ensures.1 in
    rw (p.1, p.2) (turned_judged a.limits.bound a.limits.most ws a.kinds.now vs m ps a.run (a.run.tokens - a.limits.from) f.even c.in_err-judged.field-0.0 looking c.in_err-judged.ensures)

pub returns-then-looks_ahead : goal.returns-then-looks_ahead
returns-then-looks_ahead c = λ ws m ps vs f e.
    let a = c.args in
    let looking = ap looks_ahead e ∙ (sym c.looks_ahead.ensures ∙ c.if-looks_ahead.true) in
    turned_look a.limits.bound a.limits.most ws a.kinds.now vs m ps a.run (a.run.tokens - a.limits.from) f.even c.in_ok-judged.ensures m ps (Err LimitReached) looking (λ z. c.if-operation-eq-NOTHING.false (sym e ∙ z))
    (λ g lent d h. (blocked_limit h _ (λ z. c.if-operation-eq-NOTHING.false (sym e ∙ z)) c.requires.1, refl, refl))

pub returns : goal.returns
returns c = λ ws m ps vs f e.
    let a = c.args in
    let quiet = ap looks_ahead e ∙ (sym c.looks_ahead.ensures ∙ c.if-looks_ahead.false) in
    turned_quiet a.limits.bound a.limits.most ws a.kinds.now vs m ps a.run (a.run.tokens - a.limits.from) f.even m ps (Err LimitReached) quiet (limit_answers (λ z. c.if-operation-eq-NOTHING.false (sym e ∙ z)) c.requires.1 ends)
