use Rattle.std.proofs.Common.{arith}
use Rattle.std.proofs.lemmas.Grind.{common_steps}
use Rattle.std.proofs.lemmas.Result.{err_from_is_err_and}
use Rattle.table_items.proofs.Walking.{item_refused, item_rule, item_condition}
use Rattle.table_items.proofs.read_item.Goals as goal

pub returns-in_err-at : goal.returns-in_err-at
returns-in_err-at c =
    let pre = c.requires in
    let p = err_from_is_err_and c.from_residual.result c.from_residual.ensures.1 in
    rw p.1 (item_refused _ _ _ _ _ _ _ _ _ pre.0 pre.3 pre.4 c.take_item.ensures.taken p.0 (grind (arith, common_steps)) (grind (arith, common_steps)))

pub returns-then-table-done-eq4 : goal.returns-then-table-done-eq4
returns-then-table-done-eq4 c =
    let pre = c.requires in
    item_rule _ _ _ _ _ _ _ _ _ pre.0 pre.3 pre.4 c.take_item.ensures.taken (grind (arith, common_steps)) _ (grind (arith, common_steps)) (omega arith)

pub returns-else-table-done-eq4 : goal.returns-else-table-done-eq4
returns-else-table-done-eq4 c =
    let pre = c.requires in
    item_condition _ _ _ _ _ _ _ _ _ pre.0 pre.3 pre.4 c.take_item.ensures.taken (grind (arith, common_steps)) _ (grind (arith, common_steps)) c.if-table-done-eq4.false
