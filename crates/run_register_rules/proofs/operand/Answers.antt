use native.Mathlib.Omega.{arith}
use mathlib.Core.Path.{sym, ap, ◌∙◌}
use mathlib.Core.List.{List}
use borrow.Author.Rules.{sfits_of}
use lib.IntN.{ℤ}
use Rattle.meaning.specs.Table.{signed}
use Rattle.meaning.specs.Machine.{read_register}
use Rattle.meaning.specs.Value.{in_range}
use Rattle.theory_base.specs.Members.{T→true}
use Rattle.run_registers.specs.Stack.{stack, stack_length}
use Rattle.run_registers.specs.Read.{Valued}
use Rattle.run_registers.specs.Operand.{fetched_some, operand_some, operand_none}
use Rattle.value.proofs.Bits.{held}
use Rattle.run_register_rules.proofs.operand.Goals.{Else-selector-eq0, Start}
use Rattle.run_register_rules.proofs.operand.Goals as goal

abbrev stackAt : Start → List ℤ
stackAt c = stack c.args.height c.args.registers.now

valued : (c : Else-selector-eq0) → Valued (stackAt c.before) c.args.selector
valued c = fetched_some (stackAt c.before) c.args.selector (omega arith) c.requires.1

pub returns-then-selector-eq0 : goal.returns-then-selector-eq0
returns-then-selector-eq0 c =
    let s = c.before.before in
    let e = held (sfits_of c.constant.type_inv) c.constant.ensures.0 in
    let o = operand_none (stackAt s) s.args.selector (signed s.args.constant) c.if-selector-eq0.true in
    (e ∙ sym o, ap in_range (e ∙ sym c.constant.ensures.0) ∙ c.constant.ensures.1)

pub read-requires : goal.read-requires
read-requires c = (c.requires.0, (valued c).0, omega (arith, (valued c).1, stack_length c.args.height c.args.registers.now c.requires.0))

pub returns : goal.returns
returns c =
    let s = c.before.before in
    let v = valued c.before in
    let e = held (sfits_of c.read.type_inv) c.read.ensures in
    (e ∙ sym (operand_some (stackAt s) s.args.selector (signed s.args.constant) v.0), ap in_range e ∙ T→true (in_range (read_register (stackAt s) s.args.selector)) v.2)
