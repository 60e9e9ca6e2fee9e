use Rattle.std.proofs.lemmas.Result.{err_from_is_err_and}
use Rattle.sheet.specs.tree.steps.Leaving.{settled_rests}
use Rattle.sheet.specs.tree.steps.Cycle.{pass_fails, pass_settles, step_stood}
use Rattle.sheet.proofs.tree.steps.pass.Goals as goal

pub returns-in_err-next : goal.returns-in_err-next
returns-in_err-next c =
    let st = c.step in
    let p = err_from_is_err_and c.from_residual.result c.from_residual.ensures.1 in
    rw (p.1, p.2) (pass_fails c.args.kinds.now c.args.values.now st.new.registers st.new.places c.in_err-next.field-0.0 c.in_err-next.ensures, λ k. tt)

pub settle-requires : goal.settle-requires
settle-requires c =
    let st = c.step in
    step_stood c.args.kinds.now c.args.values.now st.new.registers st.new.places c.in_ok-next.next c.in_ok-next.ensures c.requires.1 c.requires.0

pub returns : goal.returns
returns c =
    let ks = c.args.kinds.now in
    let vs = c.args.values.now in
    let st = c.step in
    let n = c.in_ok-next.next in
    let b = c.settle in
    (pass_settles ks vs st.new.registers st.new.places n c.in_ok-next.ensures b.new.registers b.new.places b.result b.ensures, settled_rests b.new.registers b.new.places b.result (step_stood ks vs st.new.registers st.new.places n c.in_ok-next.ensures c.requires.1 c.requires.0) b.ensures)
