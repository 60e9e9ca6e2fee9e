use native.Mathlib.Omega.{arith}
use mathlib.Core.Path.{sym}
use lib.ListN.{length}
use lib.Seq.{length-take-le}
use Rattle.house.proofs.Finishing.{ready_few, ready_writes}
use Rattle.house.proofs.write_house.Goals as goal

pub slice_bounds-write_planned-end : goal.slice_bounds-write_planned-end
slice_bounds-write_planned-end c =
    let p = c.plan_table-n in
    let q = ready_few c.args.table.now c.args.offsets.now c.args.count (length c.args.plan.now) c.requires p.new.plan p.result p.ensures in
    omega (arith, p.auto.plan)

pub slice_bounds-write_planned-end-2 : goal.slice_bounds-write_planned-end-2
slice_bounds-write_planned-end-2 c =
    let p = c.plan_table-n in
    let q = ready_few c.args.table.now c.args.offsets.now c.args.count (length c.args.plan.now) c.requires p.new.plan p.result p.ensures in
    sym (length-take-le p.result p.new.plan (omega (arith, p.auto.plan)))

pub write_planned-requires : goal.write_planned-requires
write_planned-requires c =
    let p = c.plan_table-n in
    let q = ready_few c.args.table.now c.args.offsets.now c.args.count (length c.args.plan.now) c.requires p.new.plan p.result p.ensures in (
      c.requires.short,
      omega (arith, c.offset_at-first.ensures.0, c.requires.inside),
      omega (arith, c.requires.small, p.auto.plan, length-take-le p.result p.new.plan (omega (arith, p.auto.plan))),
    )

pub returns : goal.returns
returns c =
    let p = c.plan_table-n in
    let g = c.write_planned in
    λ x. ready_writes c.args.table.now c.args.offsets.now c.args.count (length c.args.plan.now) x p.new.plan p.result p.ensures _
    c.offset_at-first.ensures.0 c.args.out.now g.new.out g.result g.ensures
