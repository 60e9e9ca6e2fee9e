use native.Mathlib.Omega.{arith}
use Rattle.clash_cycles.proofs.differences.Laws.{row_small}
use Rattle.clash_cycles.proofs.relax_row.Goals as goal

pub relax-requires : goal.relax-requires
relax-requires c =
    let s = c in
    let o = c.loop-j in
    (o.invariant.2, s.requires.1, omega arith, omega arith, rw o.invariant.1 (row_small 1152921504606846976 s.args.m.now s.args.k s.args.i o.j s.requires.0 s.requires.1 s.requires.2 o.invariant.0 s.requires.3))
