use mathlib.Core.Path.{◌≡◌, sym, subst, ◌∙◌}
use mathlib.Core.Bool.{true, false}
use mir.Syntax.{w32}
use mir.Val.{to_z, of_z}
use mir.Facts.{to_z-of_z}
use Rattle.preview.specs.token.Passing.{PassesAs, passes_stopped, passes_failed}
use Rattle.preview.specs.token.Unexpected.{legible, passes_none}
use Rattle.preview.proofs.token.passes.Goals as goal

pub expected-requires : goal.expected-requires
expected-requires c = legible c.requires.0 c.args.kind c.requires.2

pub returns-then-not-expected : goal.returns-then-not-expected
returns-then-not-expected c =
    let e = c.expected in
    (passes_none (sym e.ensures ∙ c.if-not-expected.true), c.requires.1)

pub returns-in-Ok : goal.returns-in-Ok
returns-in-Ok c =
    let a = c.args in
    let v = to_z w32 (of_z w32 a.value) in
    let e : v ≡ a.value = to_z-of_z c.ranges.value in
    let t = c.attempt.ensures in
    (subst (λ z. PassesAs a.program.now a.kind z a.registers.now a.places.now a.run true) e (passes_stopped t.0 _ c.in-Ok.is), t.1)

pub returns-in-Err : goal.returns-in-Err
returns-in-Err c =
    let a = c.args in
    let v = to_z w32 (of_z w32 a.value) in
    let e : v ≡ a.value = to_z-of_z c.ranges.value in
    let t = c.attempt.ensures in
    (subst (λ z. PassesAs a.program.now a.kind z a.registers.now a.places.now a.run false) e (passes_failed t.0 _ c.in-Err.is), t.1)
