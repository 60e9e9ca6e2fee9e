use Prim.Native.Nat.{ℕ}
use mathlib.Core.Path.{sym, ap, ◌∙◌}
use borrow.Author.Rules.{sfits_of}
use lib.IntN.{ℤ}
use Rattle.meaning.specs.Table.{signed}
use Rattle.value.specs.Computed.{computed}
use Rattle.value.proofs.Bits.{answer, held}
use Rattle.run_registers.specs.Stack.{stack}
use Rattle.run_registers.specs.Operand.{operand_of, Operation, operation}
use Rattle.run_register_rules.proofs.general.Goals.{Start}
use Rattle.run_register_rules.proofs.general.Goals as goal

meant : (c : Start) → Operation (stack c.args.height c.args.registers.now) c.args.word c.args.constant
meant c = operation c.requires.1

pub operand-a-requires : goal.operand-a-requires
operand-a-requires c = let s = c.before in (s.requires.0, rw c.rule_first.ensures (meant s).first)

pub operand-b-requires : goal.operand-b-requires
operand-b-requires c = let s = c.before.before.before in (s.requires.0, rw c.rule_second.ensures (meant s).second)

pub returns : goal.returns
returns c =
    let f = c.before in
    let second = f.before in
    let first = second.before.before in
    let s = first.before.before in
    let fetched : ℕ → ℤ = λ k. operand_of (stack s.args.height s.args.registers.now) k (signed s.args.constant) in
    let a = held (sfits_of first.operand-a.type_inv) first.operand-a.ensures.0 ∙ ap fetched first.rule_first.ensures in
    let b = held (sfits_of second.operand-b.type_inv) second.operand-b.ensures.0 ∙ ap fetched second.rule_second.ensures in
    answer c.compute.ensures ((λ i. computed (f.rule_function.ensures i) (a i) (b i)) ∙ sym (meant s).result)
