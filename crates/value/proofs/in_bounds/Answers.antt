use Rattle.std.proofs.Common.{◌≡◌, true, false, sym, ◌∙◌, rules}
use lib.Signed.{le_z}
use Rattle.value.proofs.in_bounds.Goals as goal

pub returns-then-low-v : goal.returns-then-low-v
returns-then-low-v c =
    let s = c.args in
    let t : le_z s.low s.v ≡ true = sym (search rules) ∙ c.if-low-v.true in
    rw t (search rules)

pub returns : goal.returns
returns c =
    let s = c.args in
    let t : le_z s.low s.v ≡ false = sym (search rules) ∙ c.if-low-v.false in
    rw t
