use native.Mathlib.Omega.{arith}
use mir.Facts.{to_z-of_z}
use mathlib.Core.Path.{refl, subst}
use Rattle.run_moves.specs.Held.{Answers, bounds}
use Rattle.run_moves.specs.Passing.{coming_of}
use Rattle.run_machine.specs.Advancing.{blocked_limit}
use Rattle.sheet.specs.tree.moves.Trying.{tried_moved, tried_blocked}
use Rattle.sheet.proofs.tree.moves.made.Goals as goal

pub returns-then-run-eq-MOVES_LIMIT : goal.returns-then-run-eq-MOVES_LIMIT
returns-then-run-eq-MOVES_LIMIT c = λ g lent d h ok. (blocked_limit h _ (λ z. omega (arith, z, c.requires.1)) c.if-run-eq-MOVES_LIMIT.true, h)

pub make_move-requires : goal.make_move-requires
make_move-requires c =
    let r = c.requires.0.running in
    (record { grammar = r.grammar; lent = r.lent; config = r.config; held = r.held; limit = omega (arith, (bounds r.held).moves, c.if-run-eq-MOVES_LIMIT.false); operation = refl }, c.requires.1, c.requires.2)

pub returns-in-Ok : goal.returns-in-Ok
returns-in-Ok c =
    let a = c.args in
    tried_moved (coming_of a.look a.value) _ _ c.in-Ok.next (subst (λ x. Answers a.program.now a.registers.now a.places.now a.run (coming_of a.look a.value) c.make_move.new.registers c.make_move.new.places x) c.in-Ok.is (rw (to_z-of_z c.ranges.value) at c.make_move.ensures))

pub returns-in-Err : goal.returns-in-Err
returns-in-Err c =
    let a = c.args in
    tried_blocked (coming_of a.look a.value) _ _ c.in-Err.refusal (subst (λ x. Answers a.program.now a.registers.now a.places.now a.run (coming_of a.look a.value) c.make_move.new.registers c.make_move.new.places x) c.in-Err.is (rw (to_z-of_z c.ranges.value) at c.make_move.ensures))
