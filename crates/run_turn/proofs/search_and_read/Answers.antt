use Prim.Native.Nat.{◌+◌, ◌-◌}
use native.Mathlib.Omega.{arith}
use mathlib.Core.Path.{◌≡◌, refl, sym, ap, ◌∙◌}
use mathlib.Core.List.{[], ◌∷◌}
use lib.IntN.{pos}
use Rattle.std.specs.Prelude.{Ok, Err}
use Rattle.std.proofs.lemmas.Result.{err_from_is_err_and}
use Rattle.run_looking.specs.Judging.{judged_of, judged_taken}
use Rattle.run_moves.specs.Passing.{look_of}
use Rattle.run_next_token.specs.Turns.{turned_predict}
use Rattle.run_next_token.specs.Reading.{turned_after, turned_then}
use Rattle.run_turn.proofs.search_and_read.Goals as goal

pub search-requires : goal.search-requires
search-requires c = c.requires

pub returns-in_err-next : goal.returns-in_err-next
returns-in_err-next c =
    let a = c.args in
    let p = err_from_is_err_and c.from_residual.result c.from_residual.ensures.1 in
    rw (p.1, p.2)
    (λ bound most us vs i even j is.
    turned_predict bound most a.program.now us vs a.registers.now a.places.now a.run i even j a.registers.now c.search.new.places (Err c.in_err-next.field-0.0) c.requires.0.0.operation (omega (arith, is, c.requires.0.1))
    (λ l same. c.in_err-next.ensures.0 l (same ∙ ap look_of is)))

pub read_on-requires : goal.read_on-requires
read_on-requires c =
    let a = c.args in
    let r = c.requires.0.0 in
    let n = a.run.tokens in
    let small = c.requires.0.1 in
    let j = judged_taken 64 n (a.look ∷ []) 0 n (omega arith) (omega arith) small in (
      (
        a.registers.now,
        (turned_after j (record { grammar = r.grammar; lent = r.lent; config = r.config; held = r.held })
            (turned_predict 64 n a.program.now (a.look ∷ []) (pos 0 ∷ []) a.registers.now a.places.now a.run 0 refl j a.registers.now c.search.new.places (Ok c.in_ok-next.next) r.operation small
            (λ l same. c.in_ok-next.ensures.0 l same))).2,
      ),
      small,
    )

pub returns : goal.returns
returns c =
    let a = c.args in
    let n = c.in_ok-next.next in
    let same : n.tokens ≡ a.run.tokens = c.in_ok-next.ensures.1 in
    λ bound most us vs i even j is.
    let here : i ≡ i + (n.tokens - a.run.tokens) = omega (arith, same) in
    turned_then here (c.read_on.ensures bound most us vs a.registers.now i even (j ∙ ap (judged_of bound most us i) (sym same)) is)
    (turned_predict bound most a.program.now us vs a.registers.now a.places.now a.run i even j a.registers.now c.search.new.places (Ok n) c.requires.0.0.operation (omega (arith, is, c.requires.0.1))
    (λ l q. c.in_ok-next.ensures.0 l (q ∙ ap look_of is)))
