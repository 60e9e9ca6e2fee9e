use lib.ListN.{length}
use native.Mathlib.Omega.{arith}
use mathlib.Core.Path.{refl, ◌≡◌}
use borrow.Author.Rules.{rules}
use Rattle.meaning.specs.Limits.{attributes_limit}
use Rattle.theory_differences.specs.Closing.{small_more, room, closed_small, closed_size}
use Rattle.theory_differences.specs.Decided.{limit}
use Rattle.clash_cycles.proofs.Placing.{zeros_near, solved, unsolved}
use Rattle.clash_cycles.proofs.solve.Goals as goal

pub close-requires : goal.close-requires
close-requires c = (search rules, small_more limit (room attributes_limit) c.args.m (omega arith) c.requires)

pub place-requires : goal.place-requires
place-requires c =
    let s = c in
    let l = s.args.m in
    let e = c.close.ensures in
    let len : length l ≡ 81 = search rules in
    (rw e (closed_size l len), refl, rw e (closed_small l len (small_more limit (room attributes_limit) l (omega arith) s.requires)), zeros_near)

pub returns-then-not-none_negative : goal.returns-then-not-none_negative
returns-then-not-none_negative c =
    let e = c.close in
    λ n cs h. unsolved c.args.m e.new.m n cs e.ensures (c.none_negative.ensures.failed c.if-not-none_negative.true) h

pub returns : goal.returns
returns c =
    let e = c.close in
    λ n cs h. solved c.args.m e.new.m c.place.new.v n cs e.ensures (c.none_negative.ensures.clear c.if-not-none_negative.false) c.place.ensures h
