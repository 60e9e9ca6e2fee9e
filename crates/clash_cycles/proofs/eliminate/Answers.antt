use native.Mathlib.Omega.{arith}
use Rattle.theory_differences.specs.Closing.{relaxed_small}
use Rattle.clash_cycles.proofs.eliminate.Goals as goal

pub relax_row-requires : goal.relax_row-requires
relax_row-requires c =
    let s = c in
    let o = c.loop-i in
    (o.invariant.2, s.requires.1, omega arith, rw o.invariant.1 (relaxed_small 576460752303423488 s.args.m.now s.args.k o.i s.requires.0 s.requires.1 o.invariant.0 s.requires.2))
