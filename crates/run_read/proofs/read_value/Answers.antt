use native.Mathlib.Omega.{arith}
use mathlib.Core.Path.{refl}
use mir.Facts.{to_z-of_z}
use Rattle.run_moves.specs.Held.{bounds}
use Rattle.run_moves.specs.Passing.{top_small, read_inside, made_value, blocked_full}
use Rattle.run_read.proofs.read_value.Goals as goal

pub returns-then-registers-height : goal.returns-then-registers-height
returns-then-registers-height c = λ g lent d h ok.
    let s = c.before.before.before.before in
    let b = s.requires.0 in
    blocked_full h _ s.args.value b.limit b.operation refl s.requires.1 c.if-registers-height.true

pub overflow_add-run : goal.overflow_add-run
overflow_add-run c = let b = c.requires.0 in omega (arith, read_inside b.held b.limit b.operation)

pub pass_symbol-requires : goal.pass_symbol-requires
pass_symbol-requires c =
    let b = c.requires.0 in
    let k = bounds b.held in
    ((k.some_place, k.places, top_small b.held), read_inside b.held b.limit b.operation)

pub overflow_add-run-2 : goal.overflow_add-run-2
overflow_add-run-2 c = let b = c.requires.0 in omega (arith, read_inside b.held b.limit b.operation)

pub returns : goal.returns
returns c = λ g lent d h ok.
    let s = c.before.before.before.before.before.before.before.before.before.before.before.before in
    let b = s.requires.0 in
    rw (c.counted-after.ensures, c.pass_symbol.ensures, to_z-of_z s.ranges.value) (made_value h _ s.args.value ok b.limit b.operation refl s.requires.1 c.if-registers-height.false)
