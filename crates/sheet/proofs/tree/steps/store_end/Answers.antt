use Prim.Native.Nat.{◌<◌}
use mathlib.Core.Path.{sym, subst}
use Rattle.refusals.specs.Numbers.{refusal_number}
use Rattle.sheet.specs.tree.steps.Numbers.{stored, AnswerWritten, end_stopped, end_failed}
use mathlib.Core.Bool.{true, false}
use lib.ListN.{set}
use Rattle.sheet.proofs.tree.steps.store_end.Goals as goal

pub returns-in-Ok : goal.returns-in-Ok
returns-in-Ok c =
    let n = c.args.numbers.now in
    subst (λ z. AnswerWritten n c.args.ended true z) (sym c.store.ensures) (subst (λ z. AnswerWritten n z true (stored n c.in-Ok.next)) (sym c.in-Ok.is) (end_stopped n c.in-Ok.next c.requires))

pub returns-in-Err : goal.returns-in-Err
returns-in-Err c =
    let f = c.in-Err.failed in
    let n = c.args.numbers.now in
    rw (c.store-in-Err.ensures, c.number.ensures) (subst (λ z. AnswerWritten n z false (set (stored n f.run) 5 (refusal_number f.refusal))) (sym c.in-Err.is) (end_failed n f (subst (λ z. z < 4294967296) c.number.ensures c.number.type_inv) c.requires))
