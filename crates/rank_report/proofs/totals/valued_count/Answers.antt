use native.Mathlib.Omega.{arith}
use mathlib.Core.Path.{sym, ◌∙◌}
use mathlib.Core.Bool.{true, false}
use Rattle.rank_report.proofs.totals.Sums.{valued_turn, valued_end}
use Rattle.rank_report.proofs.totals.valued_count.Goals as goal

pub loop-i-init : goal.loop-i-init
loop-i-init c = omega arith

pub valued_at-requires : goal.valued_at-requires
valued_at-requires c = omega arith

pub overflow_add-found : goal.overflow_add-found
overflow_add-found c = omega arith

pub overflow_add-i : goal.overflow_add-i
overflow_add-i c = omega arith

pub loop-i-smaller-then-valued_at : goal.loop-i-smaller-then-valued_at
loop-i-smaller-then-valued_at c = omega arith

pub loop-i-preserved-then-valued_at : goal.loop-i-preserved-then-valued_at
loop-i-preserved-then-valued_at c =
    let l = c.loop-i in
    let s = c in
    (omega arith, omega arith, valued_turn s.args.list.now s.args.count s.requires l.i l.found true (omega arith) (sym c.valued_at.ensures ∙ c.if-valued_at.true) l.invariant.2)

pub overflow_add-i-in-loop-i : goal.overflow_add-i-in-loop-i
overflow_add-i-in-loop-i c = omega arith

pub loop-i-smaller : goal.loop-i-smaller
loop-i-smaller c = omega arith

pub loop-i-preserved : goal.loop-i-preserved
loop-i-preserved c =
    let l = c.loop-i in
    let s = c in
    let q = valued_turn s.args.list.now s.args.count s.requires l.i l.found false (omega arith) (sym c.valued_at.ensures ∙ c.if-valued_at.false) l.invariant.2 in
    (omega arith, omega arith, omega (arith, q))

pub returns : goal.returns
returns c = valued_end c.args.list.now c.args.count c.requires c.loop-i.i c.loop-i.found (omega arith) c.loop-i.invariant.2
