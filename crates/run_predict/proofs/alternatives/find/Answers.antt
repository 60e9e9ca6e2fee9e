use Prim.Native.Nat.{ℕ}
use Rattle.run_predict.specs.alternatives.Predicting.{holds_at, enters_at, record_of, production_small, testable_of, leads_on_lem, search_turn, search_stop}
use Rattle.run_registers.specs.Stack.{stack}
use mathlib.Core.Bool.{◌&&◌}
use Rattle.theory_program.specs.Addresses.{segment_at}
use Rattle.theory_program.specs.WordsStand.{stands_within}
use mathlib.Core.Path.{◌≡◌, sym, ap, ◌∙◌}
use native.Mathlib.Omega.{arith}
use Rattle.run_predict.proofs.alternatives.find.Goals.{Start}
use Rattle.run_predict.proofs.alternatives.find.Goals as goal

-- the set is known to hold what comes next
held : (c : Start) (r : ℕ) → r ≡ record_of c.args.program.now c.args.first
    → let e = enters_at c.args.program.now (stack c.args.height c.args.registers.now) r in e ≡ holds_at c.args.program.now r c.args.look && e
held c r is = ap (λ z. z && enters_at c.args.program.now (stack c.args.height c.args.registers.now) r) (sym (ap (λ a. holds_at c.args.program.now a c.args.look) is ∙ c.requires.1.1))

pub record_of-row-requires : goal.record_of-row-requires
record_of-row-requires c = let b = c.requires in let s = b.0.2.leads in (omega (arith, stands_within (segment_at s.begins)), omega (arith, b.1.0), production_small s b.1.0)

pub enters-requires : goal.enters-requires
enters-requires c = let b = c.requires in (b.0.0, rw c.record_of-row.ensures (testable_of b.0.2.leads b.1.0))

pub returns-then-enters : goal.returns-then-enters
returns-then-enters c = λ g n s. let b = c.before.before.before.before.before in
    search_stop s b.requires.1.0 b.args.look b.requires.0.1 (rw c.record_of-row.ensures at (sym c.if-enters.true ∙ (c.enters.ensures ∙ held b c.record_of-row.result c.record_of-row.ensures)))

pub overflow_add-row : goal.overflow_add-row
overflow_add-row c = let b = c.requires in omega (arith, (testable_of b.0.2.leads b.1.0).inside, c.record_of-row.ensures)

pub word_at-requires : goal.word_at-requires
word_at-requires c = let b = c.requires in omega (arith, (testable_of b.0.2.leads b.1.0).inside, c.record_of-row.ensures)

pub later-requires : goal.later-requires
later-requires c = let b = c.requires in let s = b.0.2 in (b.0.0, b.0.1, rw (c.word_at.ensures.0, c.record_of-row.ensures) (record { grammar = s.grammar; wanted = s.wanted; leads = leads_on_lem s.leads b.1.0 }))

pub returns : goal.returns
returns c = λ g n s.
    let b = c.before.before.before.before.before.before.before in
    let e = rw (c.word_at.ensures.0, c.record_of-row.ensures) at (c.later.ensures g n) in
    e (leads_on_lem s b.requires.1.0) ∙ sym (search_turn s b.requires.1.0 b.args.look b.requires.0.1
    (rw c.record_of-row.ensures at (sym c.if-enters.false ∙ (c.enters.ensures ∙ held b c.record_of-row.result c.record_of-row.ensures))))
