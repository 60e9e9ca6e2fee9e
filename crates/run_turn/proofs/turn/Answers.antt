use Prim.Native.Nat.{◌+◌, ◌-◌}
use native.Mathlib.Omega.{arith}
use mathlib.Core.Path.{◌≡◌, refl}
use mathlib.Core.List.{[], ◌∷◌}
use lib.IntN.{pos}
use Rattle.std.proofs.lemmas.Result.{err_from_is_err_and}
use Rattle.meaning.specs.Sets.{end_number}
use Rattle.run_turn.specs.Stages.{any_taken, went_after, went_went, went_ends, went_turns}
use Rattle.run_turn.proofs.turn.Goals as goal

pub add_and_evaluate-requires : goal.add_and_evaluate-requires
add_and_evaluate-requires c = (c.args.places.now, c.requires.0.running)

pub returns-in_err-next : goal.returns-in_err-next
returns-in_err-next c =
    let a = c.args in
    let l = a.limits in
    let p = err_from_is_err_and c.from_residual.result c.from_residual.ensures.1 in
    (rw (p.1, p.2) (c.in_err-next.ensures l.bound l.most a.kinds.now a.values.now (a.run.tokens - l.from) a.places.now c.requires.0.even), c.requires.2)

pub make_other_move-requires : goal.make_other_move-requires
make_other_move-requires c =
    let n = c.args.run.tokens in
    let p = c.requires.0 in
    let k = went_after (any_taken n) p.running (c.in_ok-next.ensures 64 n (end_number ∷ []) (pos 0 ∷ []) 0 c.args.places.now refl) in
    (record { running = k.1; few = p.few; even = p.even; alone = p.alone }, omega (arith, k.0, c.requires.1), c.requires.2)

pub returns-in-Err : goal.returns-in-Err
returns-in-Err c =
    let a = c.args in
    let l = a.limits in
    let n = a.run.tokens in
    let next = c.in_ok-next.next in
    let k = went_after (any_taken n) c.requires.0.running (c.in_ok-next.ensures 64 n (end_number ∷ []) (pos 0 ∷ []) 0 a.places.now refl) in
    let index : next.tokens - l.from ≡ n - l.from + (next.tokens - n) = omega (arith, k.0, c.requires.1) in
    (went_ends (c.in_ok-next.ensures l.bound l.most a.kinds.now a.values.now (n - l.from) a.places.now c.requires.0.even) index c.make_other_move.new.registers c.make_other_move.new.places c.in-Err.halt c.in-Err.ensures.0, c.in-Err.ensures.1)

pub returns-in-Ok : goal.returns-in-Ok
returns-in-Ok c =
    let a = c.args in
    let l = a.limits in
    let n = a.run.tokens in
    let next = c.in_ok-next.next in
    let k = went_after (any_taken n) c.requires.0.running (c.in_ok-next.ensures 64 n (end_number ∷ []) (pos 0 ∷ []) 0 a.places.now refl) in
    let index : next.tokens - l.from ≡ n - l.from + (next.tokens - n) = omega (arith, k.0, c.requires.1) in
    (went_turns (went_went (c.in_ok-next.ensures l.bound l.most a.kinds.now a.values.now (n - l.from) a.places.now c.requires.0.even) index c.in-Ok.ensures.0), c.in-Ok.ensures.1)
