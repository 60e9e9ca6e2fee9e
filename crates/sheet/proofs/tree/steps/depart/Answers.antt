use Rattle.std.proofs.lemmas.Result.{err_from_is_err_and}
use Rattle.sheet.specs.tree.steps.Leaving.{left_fails, left_stood, left_settled, settled_rests}
use Rattle.sheet.proofs.tree.steps.depart.Goals as goal

pub returns-in_err-next : goal.returns-in_err-next
returns-in_err-next c =
    let a = c.args in
    let st = c.made in
    let p = err_from_is_err_and c.from_residual.result c.from_residual.ensures.1 in
    rw (p.1, p.2) (left_fails c.requires.1 a.at a.before a.sheet.now c.write_record.new.sheet st.new.registers st.new.places c.in_err-next.field-0.0 c.in_err-next.ensures, λ k. tt)

pub settle-requires : goal.settle-requires
settle-requires c =
    let a = c.args in
    let st = c.made in
    left_stood c.requires.1 a.at a.before a.sheet.now c.write_record.new.sheet st.new.registers st.new.places c.in_ok-next.next c.in_ok-next.ensures c.requires.0

pub returns : goal.returns
returns c =
    let a = c.args in
    let st = c.made in
    let w = c.write_record in
    let n = c.in_ok-next.next in
    let b = c.settle in
    let q = left_stood c.requires.1 a.at a.before a.sheet.now w.new.sheet st.new.registers st.new.places n c.in_ok-next.ensures c.requires.0 in
    (left_settled c.requires.1 a.at a.before a.sheet.now w.new.sheet st.new.registers st.new.places n c.in_ok-next.ensures w.ensures b.new.registers b.new.places b.result b.ensures, settled_rests b.new.registers b.new.places b.result q b.ensures)
