use native.Mathlib.Omega.{arith}
use Rattle.meaning.specs.Calls.{valued}
use Rattle.run_fit.specs.past.Passing.{passes_short}
use Rattle.run_fit.proofs.past.Laws.{stretch_met, stretch_not}
use Rattle.run_fit.proofs.past.past_valued.Goals as goal

pub returns-then-registers-end : goal.returns-then-registers-end
returns-then-registers-end c =
    let s = c.before in
    passes_short s.args.registers.now valued s.args.at s.args.count (omega arith)

pub returns-then-all_valued : goal.returns-then-all_valued
returns-then-all_valued c =
    let s = c.before.before.before.before in
    stretch_met s.args.registers.now valued s.args.at s.args.count (omega arith) c.all_valued.result c.all_valued.ensures c.if-all_valued.true

pub returns-else-all_valued : goal.returns-else-all_valued
returns-else-all_valued c =
    let s = c.before.before.before.before in
    stretch_not s.args.registers.now valued s.args.at s.args.count (omega arith) c.all_valued.result c.all_valued.ensures c.if-all_valued.false
