use Prim.Native.Nat.{ℕ}
use native.Mathlib.Omega.{arith}
use mathlib.Core.Path.{◌≡◌, refl, sym, ap, ◌∙◌}
use mathlib.Core.Bool.{Bool}
use mathlib.Core.List.{List}
use lib.ListN.{get_or}
use Rattle.std.proofs.lemmas.Result.{err_from_is_err_and}
use Rattle.theory_program.specs.Parts.{head_operation}
use Rattle.run_moves.specs.Held.{bounds}
use Rattle.sheet.specs.tree.moves.NodeInMemory.{is_inside, inside_few, going_start, going_stood, going_on, going_fail, going_less}
use Rattle.sheet.proofs.tree.moves.settle.Goals as goal

-- whether the instruction at hand is inside the node
tested : (ws : List ℕ) (at word operation : ℕ) (r : Bool) → word ≡ get_or ws at 0 → operation ≡ head_operation word → r ≡ is_inside operation → r ≡ is_inside (head_operation (get_or ws at 0))
tested ws at word operation r p q e = e ∙ ap is_inside (q ∙ ap head_operation p)

pub loop-registers-init : goal.loop-registers-init
loop-registers-init c = (going_start _ _ _ _, refl, refl)

pub word_at-requires : goal.word_at-requires
word_at-requires c = (bounds (going_stood c.loop-registers.invariant.0 c.requires).held).inside

pub made-requires : goal.made-requires
made-requires c =
    let r = going_stood c.loop-registers.invariant.0 c.requires in
    (record { running = record { grammar = r.grammar; lent = r.lent; config = r.config; held = r.held }; ahead = tt }, inside_few _ (sym (tested c.args.program.now c.loop-registers.state.at _ _ _ c.word_at.ensures.0 c.operation.ensures c.inside.ensures) ∙ c.loop-registers-test.true), omega arith)

pub returns-in_err-state : goal.returns-in_err-state
returns-in_err-state c =
    let p = err_from_is_err_and c.from_residual.result c.from_residual.ensures.1 in
    rw (p.1, p.2) (going_fail c.loop-registers.invariant.0 (sym (tested c.args.program.now c.loop-registers.state.at _ _ _ c.word_at.ensures.0 c.operation.ensures c.inside.ensures) ∙ c.loop-registers-test.true) _ _ c.in_err-state.field-0.0 c.in_err-state.ensures)

pub loop-registers-preserved : goal.loop-registers-preserved
loop-registers-preserved c =
    let l = c.loop-registers in
    (going_on l.invariant.0 (sym (tested c.args.program.now l.state.at _ _ _ c.word_at.ensures.0 c.operation.ensures c.inside.ensures) ∙ c.loop-registers-test.true) _ _ c.in_ok-state.state c.in_ok-state.ensures, c.made.auto.registers ∙ l.invariant.1, c.made.auto.places ∙ l.invariant.2)

pub loop-registers-smaller : goal.loop-registers-smaller
loop-registers-smaller c =
    omega (arith, going_less c.loop-registers.invariant.0 (sym (tested c.args.program.now c.loop-registers.state.at _ _ _ c.word_at.ensures.0 c.operation.ensures c.inside.ensures) ∙ c.loop-registers-test.true) _ _ c.in_ok-state.state c.in_ok-state.ensures (going_stood c.loop-registers.invariant.0 c.requires))
