use mathlib.Core.Path.{◌≡◌, sym, ◌∙◌}
use mathlib.Core.Bool.{true, false}
use borrow.Author.Rules.{rules}
use lib.Signed.{lt_z}
use Rattle.meaning.specs.Differences.{lesser}
use Rattle.clash_cycles.proofs.differences.lesser.Goals as goal

pub returns-then-b-a : goal.returns-then-b-a
unfolding lesser
returns-then-b-a c =
    let s = c.args in
    let t : lt_z s.b s.a ≡ true = sym (search rules) ∙ c.if-b-a.true in
    rw t (search rules)

pub returns-else-b-a : goal.returns-else-b-a
unfolding lesser
returns-else-b-a c =
    let s = c.args in
    let t : lt_z s.b s.a ≡ false = sym (search rules) ∙ c.if-b-a.false in
    rw t (search rules)
