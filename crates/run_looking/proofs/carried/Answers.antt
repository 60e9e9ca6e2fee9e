use native.Mathlib.Omega.{arith}
use mathlib.Core.Path.{sym, ◌∙◌}
use borrow.Author.Rules.{sfits_of}
use mir.Facts.{to_z-of_z}
use Rattle.run_looking.specs.Judging.{value_there, value_none}
use Rattle.run_looking.proofs.carried.Goals as goal

pub overflow_cast-result : goal.overflow_cast-result
overflow_cast-result c =
    let f = c.ranges.value in
    rw (to_z-of_z f) (sfits_of (omega (arith, f.sfits)))

pub returns-then-in_set : goal.returns-then-in_set
returns-then-in_set c =
    let s = c.before.before.before.before in
    let a = s.args in
    to_z-of_z (overflow_cast-result c) ∙ (to_z-of_z s.ranges.value ∙ value_there a.program.now a.kind a.value (sym c.in_set.ensures ∙ c.if-in_set.true))

pub returns : goal.returns
returns c =
    let a = c.args in
    value_none a.program.now a.kind a.value (sym c.in_set.ensures ∙ c.if-in_set.false)
