use Prim.Native.Nat.{◌-◌}
use native.Mathlib.Omega.{arith}
use mathlib.Core.Path.{◌≡◌, ap}
use Rattle.std.proofs.lemmas.Result.{err_from_is_err_and}
use Rattle.run_looking.specs.Judging.{looks_ahead, taken_of}
use Rattle.run_next_token.specs.Turns.{turned_judged, turned_over, turned_more}
use Rattle.run_next_token.proofs.nothing_next.Goals as goal

pub returns-in_err-judged : goal.returns-in_err-judged
returns-in_err-judged c = λ ws m ps vs f e.
    let a = c.args in
    let p = err_from_is_err_and c.from_residual.result c.from_residual.ensures.1 in
    rw (p.1, p.2) (turned_judged a.limits.bound a.limits.most ws a.kinds.now vs m ps a.run (a.run.tokens - a.limits.from) f.even c.in_err-judged.field-0.0 (ap looks_ahead e) c.in_err-judged.ensures)

pub returns-then-kinds-i-eq-END : goal.returns-then-kinds-i-eq-END
returns-then-kinds-i-eq-END c = λ ws m ps vs f e.
    let a = c.args in
    let i = a.run.tokens - a.limits.from in
    let here = taken_of a.limits.bound a.limits.most a.kinds.now i a.run.tokens c.in_ok-judged.ensures in
    let b : a.limits.bound ≡ 64 = omega (arith, here.2, c.if-kinds-i-eq-END.true, f.few) in
    turned_over a.limits.bound a.limits.most ws a.kinds.now vs m ps a.run i f.even c.in_ok-judged.ensures e c.if-kinds-i-eq-END.true (omega (arith, f.alone b))

pub returns : goal.returns
returns c = λ ws m ps vs f e.
    let a = c.args in
    turned_more a.limits.bound a.limits.most ws a.kinds.now vs m ps a.run (a.run.tokens - a.limits.from) f.even c.in_ok-judged.ensures e c.if-kinds-i-eq-END.false
