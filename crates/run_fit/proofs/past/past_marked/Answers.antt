use native.Mathlib.Omega.{arith}
use Rattle.meaning.specs.Calls.{marked}
use Rattle.run_fit.specs.past.Passing.{passes_short}
use Rattle.run_fit.proofs.past.Laws.{stretch_met, stretch_not}
use Rattle.run_fit.proofs.past.past_marked.Goals as goal

pub returns-then-registers-end : goal.returns-then-registers-end
returns-then-registers-end c =
    let s = c.before in
    passes_short s.args.registers.now marked s.args.at s.args.count (omega arith)

pub returns-then-few_marked : goal.returns-then-few_marked
returns-then-few_marked c =
    let s = c.before.before.before.before in
    stretch_met s.args.registers.now marked s.args.at s.args.count (omega arith) c.few_marked.result c.few_marked.ensures c.if-few_marked.true

pub returns-else-few_marked : goal.returns-else-few_marked
returns-else-few_marked c =
    let s = c.before.before.before.before in
    stretch_not s.args.registers.now marked s.args.at s.args.count (omega arith) c.few_marked.result c.few_marked.ensures c.if-few_marked.false
