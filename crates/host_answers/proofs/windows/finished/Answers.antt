use native.Mathlib.Omega.{arith}
use mathlib.Core.Path.{sym, ap, ◌∙◌}
use mathlib.Core.Bool.{cond}
use borrow.Author.Tests.{eq-eqb, ne_eqb}
use mir.Facts.{to_z-of_z}
use Rattle.meaning.specs.Calls.{value, refused}
use Rattle.host_answers.proofs.windows.finished.Goals as goal

pub returns-then-number-eq0 : goal.returns-then-number-eq0
returns-then-number-eq0 c =
    let a = c.args in
    ap (λ v. value v a.count) (to_z-of_z c.ranges.value) ∙ sym (ap (λ t. cond t (value a.value a.count) (refused a.number a.count)) (eq-eqb a.number 0 (omega arith)))

pub returns : goal.returns
returns c =
    let a = c.args in
    sym (ap (λ t. cond t (value a.value a.count) (refused a.number a.count)) (ne_eqb a.number 0 (λ z. omega arith)))
