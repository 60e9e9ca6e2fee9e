use Rattle.std.proofs.Common.{arith, refl}
use Rattle.house_copy.proofs.Writing.{filled_start, filled_room, filled_more, filled_end}
use Rattle.house_copy.proofs.write_fields.Goals as goal

pub loop-offset-init : goal.loop-offset-init
loop-offset-init c = filled_start c.args.table.now c.args.order.now c.args.out.now c.args.to (omega arith)

pub copy-requires : goal.copy-requires
copy-requires c =
    let l = c.loop-offset in
    rw l.auto.out (filled_room c.args.table.now c.args.order.now c.args.out.now c.args.to c.requires l.offset-index l.at l.out l.invariant (omega arith) _ _ refl c.field_at-field.ensures)

pub overflow_add-at : goal.overflow_add-at
overflow_add-at c =
    let l = c.loop-offset in
    let q = filled_room c.args.table.now c.args.order.now c.args.out.now c.args.to c.requires l.offset-index l.at l.out l.invariant (omega arith) _ _ refl c.field_at-field.ensures in
    omega arith

pub loop-offset-preserved : goal.loop-offset-preserved
loop-offset-preserved c =
    let l = c.loop-offset in
    filled_more c.args.table.now c.args.order.now c.args.out.now c.args.to c.requires l.offset-index l.at l.out l.invariant (omega arith) _ _ refl c.field_at-field.ensures c.copy.new.out c.copy.ensures

pub returns : goal.returns
returns c = let l = c.loop-offset in filled_end c.args.table.now c.args.order.now c.args.out.now c.args.to l.offset-index l.at l.out l.invariant (omega arith)
