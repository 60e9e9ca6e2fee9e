use Rattle.theory_program.specs.Parts.{head_operation}
use native.Mathlib.Omega.{arith}
use mathlib.Core.Path.{◌≡◌, refl, sym, ap, ◌∙◌}
use mathlib.Core.Bool.{false}
use lib.ListN.{get_or}
use Rattle.meaning.specs.Program.{add_operation}
use Rattle.meaning.specs.Machine.{ends}
use Rattle.run_looking.specs.Judging.{looks_ahead}
use Rattle.std.specs.Prelude.{Err}
use Rattle.refusals.specs.declared.Refusal.TheVariants.{LimitReached}
use Rattle.run_moves.specs.Held.{halting, bounds}
use Rattle.run_next_token.specs.Operations.{limit_answers}
use Rattle.run_next_token.specs.Turns.{turned_quiet}
use Rattle.run_turn.specs.Stages.{Other, none, stage_turned}
use Rattle.run_turn.proofs.add_if_at_hand.Goals.{After-operation, Else-operation-ne-ADD, Start}
use Rattle.run_turn.proofs.add_if_at_hand.Goals as goal

abbrev start : After-operation → Start
start c = c.before.before.before.before

-- the operation at hand
operation_is : (c : After-operation) → let a = (start c).args in c.operation.result ≡ head_operation (get_or a.program.now a.run.at 0)
operation_is c = c.operation.ensures ∙ ap head_operation c.word_at.ensures.0

number : (c : Else-operation-ne-ADD) → let a = (start (record { before = c.before.before; type_inv = record { program = c.before.before.shared_slice_known-1.given } })).args in head_operation (get_or a.program.now a.run.at 0) ≡ add_operation
number c = sym (operation_is (record { before = c.before.before; type_inv = record { program = c.before.before.shared_slice_known-1.given } })) ∙ c.if-operation-ne-ADD.false

-- it looks at nothing
quiet : (c : Else-operation-ne-ADD) → let a = (start (record { before = c.before.before; type_inv = record { program = c.before.before.shared_slice_known-1.given } })).args in looks_ahead (head_operation (get_or a.program.now a.run.at 0)) ≡ false
quiet c = ap looks_ahead (number c)

pub word_at-requires : goal.word_at-requires
word_at-requires c = (bounds c.requires.1.held).inside

pub returns-then-operation-ne-ADD : goal.returns-then-operation-ne-ADD
returns-then-operation-ne-ADD c = λ bound most us vs i ps even. none refl refl refl (λ e. c.if-operation-ne-ADD.true (operation_is (record { before = c.before.before; type_inv = record { program = c.before.before.shared_slice_known-1.given } }) ∙ e))

pub returns-then-run-eq-MOVES_LIMIT : goal.returns-then-run-eq-MOVES_LIMIT
returns-then-run-eq-MOVES_LIMIT c = λ bound most us vs i ps even.
    let e = c.before.before.before in
    let a = (start (record { before = e.before; type_inv = record { program = e.before.shared_slice_known-1.given } })).args in
    let m = a.registers.now in
    turned_quiet bound most a.program.now us vs m ps a.run i even m ps (Err LimitReached) (quiet (record { before = e; type_inv = record { program = e.shared_slice_known-1.given } })) (limit_answers (λ z. omega (arith, number (record { before = e; type_inv = record { program = e.shared_slice_known-1.given } }), z)) c.if-run-eq-MOVES_LIMIT.true ends)

pub add-requires : goal.add-requires
add-requires c =
    let e = c.before.before.before in
    let p = (start (record { before = e.before; type_inv = record { program = e.before.shared_slice_known-1.given } })).requires in
    let r = p.1 in
    (p.0, record { grammar = r.grammar; lent = r.lent; config = r.config; held = r.held; limit = omega (arith, c.if-run-eq-MOVES_LIMIT.false, (bounds r.held).moves); operation = number (record { before = e; type_inv = record { program = e.shared_slice_known-1.given } }) })

pub returns : goal.returns
returns c = λ bound most us vs i ps even.
    let e = c.before.before.before.before in
    let a = (start (record { before = e.before; type_inv = record { program = e.before.shared_slice_known-1.given } })).args in
    let m = a.registers.now in
    stage_turned (Other a.program.now add_operation) bound most a.program.now us vs i m ps a.run m ps (halting c.add.result)
    (turned_quiet bound most a.program.now us vs m ps a.run i even m ps c.add.result (quiet (record { before = e; type_inv = record { program = e.shared_slice_known-1.given } })) (c.add.ensures ps ends))
