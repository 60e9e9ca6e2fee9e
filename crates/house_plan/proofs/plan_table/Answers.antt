use Rattle.std.proofs.Common.{arith, refl, length, take}
use Rattle.house_plan.proofs.Planning.{goes_start, goes_room, goes_on, goes_end}
use Rattle.house_plan.proofs.plan_table.Goals as goal

pub loop-from-init : goal.loop-from-init
loop-from-init c = goes_start _ _ _

pub plan_production-n-requires : goal.plan_production-n-requires
plan_production-n-requires c =
    let l = c.loop-from in (
      c.requires.0,
      omega arith,
      rw l.auto.plan (goes_room c.args.table.now (take c.args.count c.args.offsets.now) l.plan l.n l.from-index _ l.invariant c.loop-from-test.true refl (length c.args.plan.now) c.requires.2),
      omega (arith, l.auto.plan, c.requires.3),
    )

pub loop-from-preserved : goal.loop-from-preserved
loop-from-preserved c =
    let l = c.loop-from in
    let g = c.plan_production-n in
    goes_on c.args.table.now (take c.args.count c.args.offsets.now) l.plan l.n l.from-index _ l.invariant c.loop-from-test.true refl g.new.plan g.result g.ensures

pub returns : goal.returns
returns c = let l = c.loop-from in goes_end c.args.table.now (take c.args.count c.args.offsets.now) l.plan l.n l.from-index l.invariant (omega arith)
