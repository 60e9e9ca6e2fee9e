use Prim.Native.Nat.{◌-◌}
use native.Mathlib.Omega.{arith}
use mathlib.Core.Path.{◌≡◌, sym, ap, ◌∙◌}
use mathlib.Core.Bool.{not}
use lib.ListN.{get_or, set}
use borrow.Author.Tests.{eq-eqb, ne_eqb}
use Rattle.meaning.specs.Program.{test_operation}
use Rattle.theory_program.specs.Parts.{head_operation}
use Rattle.run_moves.specs.Moves.{count_if}
use Rattle.run_next_token.specs.Following.{count_by, count_more}
use Rattle.run_next_token.proofs.pass_each.Goals.{After-operation, Start}
use Rattle.run_next_token.proofs.pass_each.Goals as goal

abbrev start : After-operation → Start
start c = c.before.before.before.before.before.before

-- the operation behind
here : (c : After-operation) → c.operation.result ≡ head_operation (get_or (start c).args.program.now (start c).args.at 0)
here c = c.operation.ensures ∙ ap head_operation c.word_at.ensures.0

pub returns-then-operation-eq-TEST : goal.returns-then-operation-eq-TEST
returns-then-operation-eq-TEST c =
    let s = start (record { before = c.before.before; type_inv = record { places = c.before.before.slice_known-2-1.given; program = c.before.before.shared_slice_known-1.given } }) in
    let a = s.args in
    ap (set a.places.now (a.height - 1)) (omega (arith, s.requires.1))
    ∙ sym (ap (λ z. count_if (not z) a.height (count_by (a.n - 1) a.height a.places.now)) (eq-eqb (head_operation (get_or a.program.now a.at 0)) test_operation (sym (here (record { before = c.before.before; type_inv = record { places = c.before.before.slice_known-2-1.given; program = c.before.before.shared_slice_known-1.given } })) ∙ c.if-operation-eq-TEST.true)))

pub returns : goal.returns
returns c =
    let s = start (record { before = c.before.before; type_inv = record { places = c.before.before.slice_known-2-1.given; program = c.before.before.shared_slice_known-1.given } }) in
    let a = s.args in
    let ps = a.places.now in
    ap (set ps (a.height - 1)) (omega (arith, s.requires.1))
    ∙ (sym (count_more (a.n - 1) a.height ps (omega (arith, s.requires.0.0, s.requires.0.1)))
    ∙ sym (ap (λ z. count_if (not z) a.height (count_by (a.n - 1) a.height ps)) (ne_eqb (head_operation (get_or a.program.now a.at 0)) test_operation (λ e. c.if-operation-eq-TEST.false (here (record { before = c.before.before; type_inv = record { places = c.before.before.slice_known-2-1.given; program = c.before.before.shared_slice_known-1.given } }) ∙ e)))))
