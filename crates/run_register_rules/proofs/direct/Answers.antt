use Prim.Native.Nat.{ℕ, zero, suc, ◌≤◌}
use native.Mathlib.Omega.{arith}
use mathlib.Core.Path.{◌≡◌, refl, sym, ap, ap₂, ◌∙◌}
use mathlib.Core.Bool.{true}
use mathlib.Core.List.{List}
use borrow.Author.Rules.{sfits_of}
use lib.ListN.{length}
use lib.IntN.{ℤ, ◌+ℤ◌}
use mir.Syntax.{w64}
use mir.Val.{to_z, of_z}
use Rattle.meaning.specs.Machine.{read_register}
use Rattle.meaning.specs.Value.{in_range}
use Rattle.value.specs.Ranged.{ranged, ranged_in}
use Rattle.value.proofs.Bits.{answer, held}
use Rattle.theory_base.specs.Members.{T→true}
use Rattle.theory_program.specs.Parts.{rule_function, rule_first, rule_second}
use Rattle.run_registers.specs.Stack.{stack, stack_length}
use Rattle.run_registers.specs.Read.{Valued}
use Rattle.run_registers.specs.Operand.{Applies, is_const, is_copy, is_sum, is_addc}
use Rattle.run_register_rules.specs.Common.{common_last}
use Rattle.run_register_rules.proofs.direct.Goals.{After-read-a, After-read-b, After-rule_function-function, Else-function-eq0, Else-function-eq2, Start, Then-function-eq2}
use Rattle.run_register_rules.proofs.direct.Goals as goal

abbrev stack_at : Start → List ℤ
stack_at s = stack s.args.height s.args.registers.now

readable : (s : Start) (k : ℕ) → Valued (stack_at s) k → (s.args.height ≤ length s.args.registers.now) × (1 ≤ k) × (k ≤ s.args.height)
readable s k v = (s.requires.0, v.0, omega (arith, v.1, stack_length s.args.height s.args.registers.now s.requires.0))

-- a register that was read is a value
valued : (s : Start) (k : ℕ) {z : ℤ} → Valued (stack_at s) k → z ≡ read_register (stack_at s) k → in_range z ≡ true
valued s k v e = ap in_range e ∙ T→true (in_range (read_register (stack_at s) k)) v.2

-- where the function's number was found to be k
is_function : (c : After-rule_function-function) {k : ℕ} → c.rule_function-function.result ≡ k → rule_function c.args.word ≡ k
is_function c e = sym c.rule_function-function.ensures ∙ e

-- all common functions but the constant read a register
reads_first : {rs : List ℤ} {w k : ℕ} → Applies rs w k → (f : ℕ) → rule_function w ≡ f → (f ≡ 0 → ⊥) → (3 ≤ f → f ≡ 7) → Valued rs (rule_first w)
reads_first q zero e n i = absurd (n refl)
reads_first q (suc zero) e n i = (is_copy q e).0
reads_first q (suc (suc zero)) e n i = (is_sum q e).0
reads_first q (suc (suc (suc f))) e n i = (is_addc q (e ∙ i (omega arith))).0

first : (c : Else-function-eq0) → Valued (stack_at c.before.before) (rule_first c.args.word)
first c =
    let s = c.before.before in
    reads_first s.requires.1 (rule_function s.args.word) refl (λ z. c.if-function-eq0.false (c.rule_function-function.ensures ∙ z)) (common_last s.args.word s.requires.2)

-- the register read, back from the local
held_first : (c : After-read-a) → let s = c.before.before.before.before in to_z w64 (of_z w64 c.read-a.result) ≡ read_register (stack_at s) (rule_first s.args.word)
held_first c = held (sfits_of c.read-a.type_inv) c.read-a.ensures ∙ ap (read_register (stack_at c.before.before.before.before)) c.rule_first.ensures

held_second : (c : After-read-b) → let s = c.before.before.before.before.before.before.before.before in to_z w64 (of_z w64 c.read-b.result) ≡ read_register (stack_at s) (rule_second s.args.word)
held_second c =
    let s = c.before.before.before.before.before.before.before.before in
    held (sfits_of c.read-b.type_inv) c.read-b.ensures ∙ ap (read_register (stack_at s)) c.rule_second.ensures

-- the rule is a sum
sums : (c : Then-function-eq2) → rule_function c.args.word ≡ 2
sums c = is_function c.before.before.before.before.before c.if-function-eq2.true

-- no other function than the sum with a constant is left
adds : (c : Else-function-eq2) → rule_function c.args.word ≡ 7
adds c =
    let e = c.before.before.before.before in
    let s = e.before.before in
    common_last s.args.word s.requires.2 (omega (arith, c.if-function-eq2.false, c.if-function-eq1.false, e.if-function-eq0.false, e.rule_function-function.ensures))

pub returns-then-function-eq0 : goal.returns-then-function-eq0
returns-then-function-eq0 c =
    let r = c.constant in
    let f = c.before.before in
    held (sfits_of r.type_inv) r.ensures.0 ∙ (sym (ranged_in _ (ap in_range (sym r.ensures.0) ∙ r.ensures.1)) ∙ ap ranged (sym (is_const f.requires.1 (is_function f c.if-function-eq0.true))))

pub read-a-requires : goal.read-a-requires
read-a-requires c = rw c.rule_first.ensures (readable c.before.before.before _ (first c.before))

pub returns-then-function-eq1 : goal.returns-then-function-eq1
returns-then-function-eq1 c =
    let f = c.before.before.before.before in
    let i = is_copy f.requires.1 (is_function f c.if-function-eq1.true) in
    held_first c.before ∙ (sym (ranged_in _ (T→true _ i.0.2)) ∙ ap ranged (sym i.1))

pub read-b-requires : goal.read-b-requires
read-b-requires c =
    let s = c.before.before.before.before.before.before.before in
    rw c.rule_second.ensures (readable s _ (is_sum s.requires.1 (sums c.before)).1)

pub sum-requires : goal.sum-requires
sum-requires c =
    let t = c.before.before in
    let r = t.before.before in
    let s = r.before.before.before.before in
    let i = is_sum s.requires.1 (sums t) in
    (valued s _ i.0 (held_first r), valued s _ i.1 (held_second c))

pub returns-then-function-eq2 : goal.returns-then-function-eq2
returns-then-function-eq2 c =
    let t = c.before.before.before in
    let r = t.before.before in
    let i = is_sum r.requires.1 (sums t) in
    answer c.sum.ensures (ap₂ ◌+ℤ◌ (held_first r) (held_second c.before) ∙ sym i.2)

pub sum-requires-2 : goal.sum-requires-2
sum-requires-2 c =
    let r = c.before.before.before in
    let s = r.before.before.before.before in
    let back : to_z w64 (of_z w64 c.constant-2.result) ≡ c.constant-2.result = held (sfits_of c.constant-2.type_inv) refl in
    (valued s _ (is_addc s.requires.1 (adds c.before)).0 (held_first r), ap in_range back ∙ c.constant-2.ensures.1)

pub returns : goal.returns
returns c =
    let k = c.before in
    let r = k.before.before.before in
    let i = is_addc r.requires.1 (adds k.before) in
    answer c.sum-2.ensures (ap₂ ◌+ℤ◌ (held_first r) (held (sfits_of k.constant-2.type_inv) k.constant-2.ensures.0) ∙ sym i.1)
