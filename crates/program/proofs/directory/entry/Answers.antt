use Rattle.std.proofs.Common.{arith, sym, ap, ◌∙◌, ◌≡◌, ◌+◌, ◌*◌, get_or}
use mathlib.Core.Bool.{cond}
use borrow.Author.Tests.{eq-eqb, ne_eqb}
use Rattle.program.proofs.directory.entry.Goals as goal

pub returns-then-area-at-eq0 : goal.returns-then-area-at-eq0
returns-then-area-at-eq0 c =
    let a = c.args in
    let scheme = get_or a.area.now (a.at + 6) 0 in
    sym (ap (λ b. a.number + 256 * cond b scheme 0) (eq-eqb (get_or a.area.now (a.at + 5) 0) 0 c.if-area-at-eq0.true))

pub returns : goal.returns
returns c =
    let a = c.args in
    let scheme = get_or a.area.now (a.at + 6) 0 in
    let none : a.number ≡ a.number + 256 * 0 = omega arith in
    none ∙ sym (ap (λ b. a.number + 256 * cond b scheme 0) (ne_eqb (get_or a.area.now (a.at + 5) 0) 0 c.if-area-at-eq0.false))
