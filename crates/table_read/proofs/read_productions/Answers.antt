use native.Mathlib.Omega.{arith}
use Rattle.table_production.proofs.ProductionRows.{reached_none}
use Rattle.table_read.proofs.Outlining.{answer_whole}
use Rattle.table_read.proofs.read_productions.Goals as goal

pub returns-then-p-eq0 : goal.returns-then-p-eq0
returns-then-p-eq0 c =
    let ready = c.requires.ready in
    (λ ws held. reached_none _ _ _ _ _ _ _ _ _ _ _ _ c.loop-done.invariant.0 ready.nonterminals c.loop-done-test.false ws (c.loop-done.invariant.0.found ws held) (omega arith), tt)

pub returns : goal.returns
returns c =
    (answer_whole _ _ _ _ _ _ _ _ _ _ _ c.requires.ready c.loop-done.invariant.0 c.loop-done-test.false c.if-p-eq0.false, c.loop-done.invariant.1.sets)
