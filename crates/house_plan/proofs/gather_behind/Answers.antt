use native.Mathlib.Omega.{arith}
use mathlib.Core.Path.{sym, subst, ◌∙◌}
use Rattle.house_sort.specs.arrange.Promises.{Room}
use Rattle.house_plan.proofs.Planning.{length_part, behind_few, behind}
use Rattle.house_plan.proofs.gather_behind.Goals as goal

pub gather-found-requires : goal.gather-found-requires
gather-found-requires c = (c.requires.0, c.requires.1, subst (Room c.args.table.now c.args.body c.args.tag) (sym (length_part c.args.plan.now c.args.n)) c.requires.3, omega (arith, length_part c.args.plan.now c.args.n, c.requires.4))

pub overflow_add-result : goal.overflow_add-result
overflow_add-result c =
    let g = c.gather-found in
    let q = behind_few c.args.table.now c.args.body c.args.tag c.args.width c.args.plan.now c.args.n _ g.result c.requires.2 c.requires.3 (g.auto.order ∙ length_part c.args.plan.now c.args.n) g.ensures in
    omega arith

pub returns : goal.returns
returns c =
    let g = c.gather-found in
    behind c.args.table.now c.args.body c.args.tag c.args.width c.args.plan.now c.args.n _ g.result c.requires.2 c.requires.3
    (g.auto.order ∙ length_part c.args.plan.now c.args.n) g.ensures _
