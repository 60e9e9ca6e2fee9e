use native.Mathlib.Omega.{arith}
use mathlib.Core.Path.{◌≡◌, ◌∙◌}
use lib.ListN.{length, set, length-set}
use Rattle.house_plan.proofs.Planning.{production_fits, room_rules, rules_few, room_conditions, production_planned}
use Rattle.house_plan.proofs.plan_production.Goals as goal

pub gather_behind-rules-requires : goal.gather_behind-rules-requires
gather_behind-rules-requires c =
    let e = c.end_of-body.ensures.0 in (
      c.requires.0,
      omega arith,
      rw (length-set c.args.plan.now c.args.n c.args.from) (production_fits c.args.table.now c.args.from c.args.n (length c.args.plan.now) _ c.requires.2 e),
      rw (length-set c.args.plan.now c.args.n c.args.from) (room_rules c.args.table.now c.args.from c.args.n (length c.args.plan.now) _ c.requires.2 e),
      omega (arith, length-set c.args.plan.now c.args.n c.args.from, c.requires.3),
    )

pub gather_behind-requires : goal.gather_behind-requires
gather_behind-requires c =
    let g = c.gather_behind-rules in
    let e = c.end_of-body.ensures.0 in
    let k : length g.new.plan ≡ length c.args.plan.now = g.auto.plan ∙ length-set c.args.plan.now c.args.n c.args.from in (
      c.requires.0,
      omega arith,
      rw k
          (rules_few c.args.table.now c.args.from c.args.n (length c.args.plan.now) _ c.requires.2 e 2 (set c.args.plan.now c.args.n c.args.from) g.new.plan g.result g.ensures),
      rw k
          (room_conditions c.args.table.now c.args.from c.args.n (length c.args.plan.now) _ c.requires.2 e 2 (set c.args.plan.now c.args.n c.args.from) g.new.plan g.result g.ensures),
      omega (arith, k, c.requires.3),
    )

pub shape_of-plan : goal.shape_of-plan
shape_of-plan c =
    let g = c.gather_behind-rules in
    let e = c.end_of-body.ensures.0 in
    let k : length g.new.plan ≡ length c.args.plan.now = g.auto.plan ∙ length-set c.args.plan.now c.args.n c.args.from in
    let h = c.gather_behind in
    h.auto.plan ∙ k

pub returns : goal.returns
returns c =
    let g = c.gather_behind-rules in
    let e = c.end_of-body.ensures.0 in
    let k : length g.new.plan ≡ length c.args.plan.now = g.auto.plan ∙ length-set c.args.plan.now c.args.n c.args.from in
    let h = c.gather_behind in
    production_planned c.args.table.now c.args.from c.args.n _ e c.args.plan.now g.new.plan h.new.plan g.result h.result
    (production_fits c.args.table.now c.args.from c.args.n (length c.args.plan.now) _ c.requires.2 e) g.ensures h.ensures
