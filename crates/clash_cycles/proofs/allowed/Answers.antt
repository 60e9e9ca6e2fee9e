use Prim.Native.Nat.{◌≤◌}
use native.Mathlib.Omega.{arith}
use borrow.Author.Rules.{sfits_of}
use lib.IntN.{nat_abs, ◌+ℤ◌}
use Rattle.meaning.specs.Differences.{at}
use Rattle.theory_base.specs.Absolute.{nat_abs_add}
use Rattle.value.specs.Overflow.{fits64}
use Rattle.value.proofs.Bits.{fits2, through2}
use Rattle.clash_cycles.specs.Values.{node_value}
use Rattle.clash_cycles.proofs.allowed.Goals.{Start}
use Rattle.clash_cycles.proofs.allowed.Goals as goal

size : (s : Start) → nat_abs (node_value s.args.v.now s.args.j +ℤ at s.args.m.now s.args.k s.args.j) ≤ 4611686018427387904
size s =
    let x = node_value s.args.v.now s.args.j in
    let y = at s.args.m.now s.args.k s.args.j in
    omega (arith, nat_abs_add x y, s.requires.5 s.args.j s.requires.3, s.requires.4 s.args.k s.args.j s.requires.2 s.requires.3)

pub overflow_add-result : goal.overflow_add-result
overflow_add-result c =
    let s = c.before.before in
    fits2 ◌+ℤ◌ (node_value s.args.v.now s.args.j) (at s.args.m.now s.args.k s.args.j) (sfits_of c.x-1.given) (sfits_of c.y-1.given) (fits64 _ (omega (arith, size s)))

pub returns : goal.returns
returns c =
    let s = c.before.before in
    let e = through2 ◌+ℤ◌ (node_value s.args.v.now s.args.j) (at s.args.m.now s.args.k s.args.j) (sfits_of c.x-1.given) (sfits_of c.y-1.given) (fits64 _ (omega (arith, size s))) in
    (e, rw e (size s))
