use mathlib.Core.Path.{◌≡◌, refl, sym, ap, ◌∙◌}
use mathlib.Core.Bool.{Bool, true, false, ◌&&◌}
use mathlib.Core.List.{List}
use Prim.Native.Nat.{ℕ}
use native.Mathlib.Omega.{arith}
use borrow.Author.Rules.{sfits_of}
use borrow.Author.Tests.{eq-eqb, ne_eqb}
use lib.Dec.{eqb}
use lib.IntN.{ℤ, ◌+ℤ◌}
use lib.ListN.{length}
use lib.Signed.{le_z}
use mir.Syntax.{w64}
use mir.Val.{to_z, of_z}
use Rattle.meaning.specs.Machine.{read_register}
use Rattle.meaning.specs.Table.{signed}
use Rattle.meaning.specs.Value.{in_range}
use Rattle.theory_program.specs.Parts.{condition_kind, condition_first, condition_second}
use Rattle.run_registers.specs.Stack.{stack, stack_length}
use Rattle.run_registers.specs.Read.{Valued}
use Rattle.run_registers.specs.Operand.{first_read, second_read, range_holds, atmost_holds, atmost_plus_holds}
use Rattle.theory_base.specs.Members.{T→true}
use Rattle.value.proofs.Bits.{held}
use Rattle.run_register_rules.proofs.condition.Goals.{After-condition_kind-kind, After-read-a, After-read-b, Else-kind-eq0, Start}
use Rattle.run_register_rules.proofs.condition.Goals as goal

abbrev stackAt : Start → List ℤ
stackAt c = stack c.args.height c.args.registers.now

abbrev kind : Start → Bool
kind c = eqb (condition_kind c.args.word) 0

abbrev one : Start → Bool
one c = eqb (condition_kind c.args.word) 1

high : (c : Start) → length (stackAt c) ≡ c.args.height
high c = stack_length c.args.height c.args.registers.now c.requires.0

first : (c : Start) → Valued (stackAt c) (condition_first c.args.word)
first c = first_read (stackAt c) (condition_first c.args.word) (condition_second c.args.word) (signed c.args.low) (signed c.args.high) (one c) (kind c) c.requires.1

-- where the kind was found to be k, and where not
is_kind : (c : After-condition_kind-kind) (k : ℕ) → c.condition_kind-kind.result ≡ k → eqb (condition_kind c.args.word) k ≡ true
is_kind c k e = eq-eqb (condition_kind c.args.word) k (sym c.condition_kind-kind.ensures ∙ e)

no_kind : (c : After-condition_kind-kind) (k : ℕ) → (c.condition_kind-kind.result ≡ k → ⊥) → eqb (condition_kind c.args.word) k ≡ false
no_kind c k n = ne_eqb (condition_kind c.args.word) k (λ e. n (c.condition_kind-kind.ensures ∙ e))

-- the registers that were read
first_held : (c : After-read-a) → let s = c.before.before in to_z w64 (of_z w64 c.read-a.result) ≡ read_register (stackAt s) (condition_first s.args.word)
first_held c = held (sfits_of c.read-a.type_inv) c.read-a.ensures ∙ ap (read_register (stackAt c.before.before)) c.condition_first.ensures

second_held : (c : After-read-b) → let s = c.before.before.before.before.before.before in to_z w64 (of_z w64 c.read-b.result) ≡ read_register (stackAt s) (condition_second s.args.word)
second_held c = held (sfits_of c.read-b.type_inv) c.read-b.ensures ∙ ap (read_register (stackAt c.before.before.before.before.before.before)) c.condition_second.ensures

other : (c : Else-kind-eq0) → kind c.before.before.before.before ≡ false
other c = no_kind c.before 0 c.if-kind-eq0.false

second : (c : Else-kind-eq0) → let s = c.before.before.before.before in Valued (stackAt s) (condition_second s.args.word)
second c =
    let s = c.before.before.before.before in
    second_read (stackAt s) (condition_first s.args.word) (condition_second s.args.word) (signed s.args.low) (signed s.args.high) (one s) (kind s) (other c) s.requires.1

pub read-a-requires : goal.read-a-requires
read-a-requires c =
    let s = c.before in
    rw c.condition_first.ensures (s.requires.0, (first s).0, omega (arith, (first s).1, high s))

pub returns-then-kind-eq0 : goal.returns-then-kind-eq0
returns-then-kind-eq0 c =
    let l = c.before.before in
    let k = l.before.before in
    let s = k.before.before.before in
    let a = first_held k.before in
    let low = held (sfits_of l.constant.type_inv) l.constant.ensures.0 in
    let top = held (sfits_of c.constant-then-kind-eq0.type_inv) c.constant-then-kind-eq0.ensures.0 in
    c.in_bounds.ensures
    ∙ ((λ i. le_z (low i) (a i) && le_z (a i) (top i))
    ∙ sym (range_holds (stackAt s) (condition_first s.args.word) (condition_second s.args.word) (signed s.args.low) (signed s.args.high) (one s) (kind s) (is_kind k 0 l.if-kind-eq0.true)))

pub read-b-requires : goal.read-b-requires
read-b-requires c =
    let e = c.before in
    let s = e.before.before.before.before in
    rw c.condition_second.ensures (s.requires.0, (second e).0, omega (arith, (second e).1, high s))

pub returns-then-kind-eq1 : goal.returns-then-kind-eq1
returns-then-kind-eq1 c =
    let f = c.before.before in
    let e = f.before.before in
    let s = e.before.before.before.before in
    let a = first_held e.before.before in
    let b = second_held f in
    c.at_most.ensures
    ∙ ((λ i. le_z (a i) (b i))
    ∙ sym (atmost_holds (stackAt s) (condition_first s.args.word) (condition_second s.args.word) (signed s.args.low) (signed s.args.high) (one s) (kind s) (other e) (is_kind e.before 1 c.if-kind-eq1.true)))

pub at_most_plus-requires : goal.at_most_plus-requires
at_most_plus-requires c =
    let f = c.before.before in
    let b = second_held f in
    let d = held {z = c.constant-2.result} (sfits_of c.constant-2.type_inv) refl in
    (ap in_range b ∙ T→true _ (second f.before.before).2, ap in_range d ∙ c.constant-2.ensures.1)

pub returns : goal.returns
returns c =
    let f = c.before.before.before in
    let e = f.before.before in
    let s = e.before.before.before.before in
    let a = first_held e.before.before in
    let b = second_held f in
    let d = held (sfits_of c.constant-2.type_inv) c.constant-2.ensures.0 in
    c.at_most_plus.ensures
    ∙ ((λ i. le_z (a i) (b i +ℤ d i))
    ∙ sym (atmost_plus_holds (stackAt s) (condition_first s.args.word) (condition_second s.args.word) (signed s.args.low) (signed s.args.high) (one s) (kind s) (other e) (no_kind e.before 1 c.if-kind-eq1.false)))
