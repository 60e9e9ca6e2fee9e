use Prim.Native.Nat.{◌+◌}
use native.Mathlib.Omega.{arith}
use lib.ListN.{length, replicate}
use Rattle.meaning.specs.Calls.{valued, marked}
use Rattle.run_fit.specs.past.Passing.{Passes, valued_then_marked, both_length, passes_out, passes_then}
use Rattle.run_fit.proofs.past.Laws.{stretch_met, stretch_not}
use Rattle.run_fit.proofs.past.past_both.Goals.{Else-not-all_valued}
use Rattle.run_fit.proofs.past.past_both.Goals as goal

first : (c : Else-not-all_valued) → let a = c.args in Passes a.registers.now (replicate a.valued valued) a.at (a.at + a.valued)
first c =
    let a = c.args in
    stretch_met a.registers.now valued a.at a.valued (omega (arith, c.if-registers-end.false)) c.all_valued.result c.all_valued.ensures c.if-not-all_valued.false

pub returns-then-registers-end : goal.returns-then-registers-end
returns-then-registers-end c =
    let a = c.args in
    passes_out a.registers.now (valued_then_marked a.valued a.marked) a.at (omega (arith, both_length a.valued a.marked, c.if-registers-end.true))

pub returns-then-not-all_valued : goal.returns-then-not-all_valued
returns-then-not-all_valued c =
    let a = c.args in
    passes_then a.registers.now
    (stretch_not a.registers.now valued a.at a.valued (omega (arith, c.if-registers-end.false)) c.all_valued.result c.all_valued.ensures c.if-not-all_valued.true)
    (passes_out a.registers.now (replicate a.marked marked) (length a.registers.now + 1) (omega arith))

pub returns-then-few_marked : goal.returns-then-few_marked
returns-then-few_marked c =
    let a = c.args in
    passes_then a.registers.now (first c.before.before.before)
    (stretch_met a.registers.now marked (a.at + a.valued) a.marked (omega (arith, c.if-registers-end.false)) c.few_marked.result c.few_marked.ensures c.if-few_marked.true)

pub returns-else-few_marked : goal.returns-else-few_marked
returns-else-few_marked c =
    let a = c.args in
    passes_then a.registers.now (first c.before.before.before)
    (stretch_not a.registers.now marked (a.at + a.valued) a.marked (omega (arith, c.if-registers-end.false)) c.few_marked.result c.few_marked.ensures c.if-few_marked.false)
