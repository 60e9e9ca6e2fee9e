use native.Mathlib.Omega.{arith}
use Rattle.run_fit.proofs.past.past_place.Goals as goal

pub overflow_add-wait_inherited : goal.overflow_add-wait_inherited
overflow_add-wait_inherited c = omega (arith, c.wait_inherited.ensures, c.wait_passed.ensures)

pub past_both-requires : goal.past_both-requires
past_both-requires c =
    let passed = c.before in
    let inherited = passed.before in
    (inherited.requires, omega (arith, inherited.wait_inherited.ensures, passed.wait_passed.ensures), omega (arith, c.wait_marked.ensures))

pub returns : goal.returns
returns c =
    let marked = c.before in
    let passed = marked.before in
    rw (passed.wait_inherited.ensures, passed.wait_passed.ensures, marked.wait_marked.ensures) at c.past_both.ensures
