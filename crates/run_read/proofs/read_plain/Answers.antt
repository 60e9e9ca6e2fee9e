use native.Mathlib.Omega.{arith}
use mathlib.Core.Path.{refl}
use Rattle.run_moves.specs.Held.{bounds}
use Rattle.run_moves.specs.Passing.{top_small, read_inside, made_read}
use Rattle.run_read.proofs.read_plain.Goals as goal

pub overflow_add-run : goal.overflow_add-run
overflow_add-run c = let b = c.requires.1 in omega (arith, read_inside b.held b.limit b.operation)

pub pass_symbol-requires : goal.pass_symbol-requires
pass_symbol-requires c =
    let b = c.requires.1 in
    let k = bounds b.held in
    ((k.some_place, k.places, top_small b.held), read_inside b.held b.limit b.operation)

pub overflow_add-run-2 : goal.overflow_add-run-2
overflow_add-run-2 c = let b = c.requires.1 in omega (arith, read_inside b.held b.limit b.operation)

pub returns : goal.returns
returns c = λ rs value m g lent d h ok.
    let b = c.requires.1 in
    rw (c.counted-after.ensures, c.pass_symbol.ensures) (made_read h _ value ok b.limit b.operation refl m)
