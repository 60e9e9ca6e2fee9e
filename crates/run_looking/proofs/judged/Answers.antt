use Prim.Native.Nat.{◌-◌}
use native.Mathlib.Omega.{arith}
use Rattle.run_looking.specs.Judging.{judged_over, judged_late, judged_unknown, judged_taken}
use Rattle.run_looking.proofs.judged.Goals as goal

pub returns-then-kinds-i : goal.returns-then-kinds-i
returns-then-kinds-i c =
    let a = c.args in
    let l = a.limits in
    judged_over l.bound l.most a.kinds.now (a.tokens - l.from) a.tokens c.if-kinds-i.true

pub returns-then-limits-tokens : goal.returns-then-limits-tokens
returns-then-limits-tokens c =
    let e = c.before.before in
    let a = e.args in
    let l = a.limits in
    judged_late l.bound l.most a.kinds.now (a.tokens - l.from) a.tokens (omega (arith, e.if-kinds-i.false)) c.if-limits-tokens.true

pub overflow_cast-kinds : goal.overflow_cast-kinds
overflow_cast-kinds c =
    let a = c.args in
    omega (arith, (c.shared_slice_known-1.given (a.tokens - a.limits.from)).fits)

pub returns-then-limits-kinds : goal.returns-then-limits-kinds
returns-then-limits-kinds c =
    let k = c.before.before.before.before in
    let e = k.before.before in
    let a = e.args in
    let l = a.limits in
    judged_unknown l.bound l.most a.kinds.now (a.tokens - l.from) a.tokens (omega (arith, e.if-kinds-i.false)) (omega (arith, k.if-limits-tokens.false)) c.if-limits-kinds.true

pub returns : goal.returns
returns c =
    let k = c.before.before.before.before in
    let e = k.before.before in
    let a = e.args in
    let l = a.limits in
    judged_taken l.bound l.most a.kinds.now (a.tokens - l.from) a.tokens (omega (arith, e.if-kinds-i.false)) (omega (arith, k.if-limits-tokens.false)) (omega (arith, c.if-limits-kinds.false))
