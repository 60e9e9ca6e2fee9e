use native.Mathlib.Omega.{arith}
use mathlib.Core.Path.{◌≡◌}
use Rattle.run_fit.specs.past.Passing.{repeated_none, repeated_more, cells_between}
use Rattle.run_fit.proofs.past.past_alike.Goals as goal

pub overflow_add-valued : goal.overflow_add-valued
overflow_add-valued c = omega (arith, c.wait_inherited.ensures, c.wait_passed.ensures)

pub loop-turn-init : goal.loop-turn-init
loop-turn-init c = repeated_none c.args.registers.now (cells_between c.args.word c.args.word) c.args.at c.requires

pub past_both-reached-requires : goal.past_both-reached-requires
past_both-reached-requires c = (c.loop-turn.invariant.inside, omega (arith, c.wait_inherited.ensures, c.wait_passed.ensures), omega (arith, c.wait_marked-marked.ensures))

pub loop-turn-preserved : goal.loop-turn-preserved
loop-turn-preserved c =
    let l = c.loop-turn in
    let a = c.args in
    let more = rw (c.wait_inherited.ensures, c.wait_passed.ensures, c.wait_marked-marked.ensures) at c.past_both-reached.ensures in
    repeated_more a.registers.now (cells_between a.word a.word) a.at l._turn l.invariant more

pub returns : goal.returns
returns c =
    let e : c.loop-turn._turn ≡ c.args.times = omega arith in
    rw e at c.loop-turn.invariant
