use Prim.Native.Nat.{◌-◌}
use native.Mathlib.Omega.{arith}
use mathlib.Core.Path.{refl, sym, ap, subst}
use Rattle.std.proofs.lemmas.Result.{err_from_is_err_and}
use Rattle.run_looking.specs.Judging.{looks_ahead, taken_of}
use Rattle.run_moves.specs.Held.{bounds}
use Rattle.run_moves.specs.Returns.{ReturnsTo, return_here}
use Rattle.run_next_token.specs.Turns.{turned_judged}
use Rattle.run_turn.proofs.predict_next.Goals as goal

pub returns-in_err-judged : goal.returns-in_err-judged
returns-in_err-judged c =
    let a = c.args in
    let p = err_from_is_err_and c.from_residual.result c.from_residual.ensures.1 in
    (λ vs even. rw (p.1, p.2) (turned_judged a.limits.bound a.limits.most a.program.now a.kinds.now vs a.registers.now a.places.now a.run (a.run.tokens - a.limits.from) even c.in_err-judged.field-0.0 (ap looks_ahead c.requires.1) c.in_err-judged.ensures), c.requires.4)

pub bounds-kinds-i : goal.bounds-kinds-i
bounds-kinds-i c =
    let a = c.args in
    (taken_of a.limits.bound a.limits.most a.kinds.now (a.run.tokens - a.limits.from) a.run.tokens c.in_ok-judged.ensures).0

pub overflow_sub-run : goal.overflow_sub-run
overflow_sub-run c = (bounds c.requires.0.1.running.held).some_place

pub word_at-waiting-requires : goal.word_at-waiting-requires
word_at-waiting-requires c = let k = bounds c.requires.0.1.running.held in omega (arith, k.some_place, k.places)

pub predict_token-requires : goal.predict_token-requires
predict_token-requires c =
    let a = c.args in
    let p = c.requires in
    let r = p.0.1.running in
    let here = taken_of a.limits.bound a.limits.most a.kinds.now (a.run.tokens - a.limits.from) a.run.tokens c.in_ok-judged.ensures in
    (record { grammar = r.grammar; lent = r.lent; config = r.config; held = r.held; limit = p.2; operation = p.1 }, omega (arith, here.2, p.0.1.few))

pub returns-in_err-predict_token : goal.returns-in_err-predict_token
returns-in_err-predict_token c =
    let a = c.args in
    let ws = a.program.now in
    let p = err_from_is_err_and c.from_residual-in_err-predict_token.result c.from_residual-in_err-predict_token.ensures.1 in
    let waits : ReturnsTo ws c.word_at-waiting.result a.run.at = subst (λ q. ReturnsTo ws q a.run.at) (sym c.word_at-waiting.ensures.0) (return_here c.requires.0.1.running.held c.requires.1) in (
      (λ vs even. rw (p.1, p.2) (c.in_err-predict_token.ensures a.limits.bound a.limits.most a.kinds.now vs (a.run.tokens - a.limits.from) even c.in_ok-judged.ensures refl)),
      c.keep_return.ensures ws c.requires.4 waits,
    )

pub returns : goal.returns
returns c =
    let a = c.args in
    let ws = a.program.now in
    let waits : ReturnsTo ws c.word_at-waiting.result a.run.at = subst (λ q. ReturnsTo ws q a.run.at) (sym c.word_at-waiting.ensures.0) (return_here c.requires.0.1.running.held c.requires.1) in (
      (λ vs even. c.in_ok-predict_token.ensures a.limits.bound a.limits.most a.kinds.now vs (a.run.tokens - a.limits.from) even c.in_ok-judged.ensures refl),
      c.keep_return.ensures ws c.requires.4 waits,
    )
