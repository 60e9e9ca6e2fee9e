use Rattle.std.proofs.Common.{arith, refl, sym, ap, ◌∙◌, length}
use Rattle.std.proofs.lemmas.List.{take_all}
use Rattle.theory_order.specs.Planning.{copied}
use Rattle.house_copy.proofs.Writing.{copied_none, length_more, length_small}
use Rattle.house_copy.proofs.planned_length.Goals as goal

pub loop-at-init : goal.loop-at-init
loop-at-init c = (sym (ap length (copied_none c.args.table.now)), omega arith)

pub overflow_add-sum : goal.overflow_add-sum
overflow_add-sum c =
    let l = c.loop-at in
    let q = length_small c.args.table.now c.args.order.now l.at-index _ _ (omega arith) refl c.field_at.ensures in
    omega arith

pub loop-at-preserved : goal.loop-at-preserved
loop-at-preserved c =
    let l = c.loop-at in
    let q = length_small c.args.table.now c.args.order.now l.at-index _ _ (omega arith) refl c.field_at.ensures in
    (length_more c.args.table.now c.args.order.now l.at-index _ _ (omega arith) refl c.field_at.ensures l.sum l.invariant.0, omega arith)

pub returns : goal.returns
returns c = let l = c.loop-at in (l.invariant.0 ∙ ap (λ z. length (copied c.args.table.now z)) (take_all l.at-index c.args.order.now (omega arith)), omega arith)
