use Rattle.std.proofs.Common.{sym, ◌∙◌, arith}
use Rattle.theory_judge.specs.Holding.{going_start, going_inside, going_on, going_false, going_end}
use Rattle.judge_nodes.proofs.values.fields_hold.Goals as goal

pub loop-at-init : goal.loop-at-init
loop-at-init c = (omega arith, going_start)

pub slice_bounds-field-count : goal.slice_bounds-field-count
slice_bounds-field-count c = omega arith

pub slice_bounds-field-start : goal.slice_bounds-field-start
slice_bounds-field-start c = omega arith

pub slice_bounds-field-end : goal.slice_bounds-field-end
slice_bounds-field-end c = omega arith

pub returns-then-not-field_holds : goal.returns-then-not-field_holds
returns-then-not-field_holds c =
    going_false c.loop-at.invariant.1 (omega arith) (sym c.field_holds.ensures ∙ c.if-not-field_holds.true)

pub loop-at-smaller : goal.loop-at-smaller
loop-at-smaller c =
    omega (arith, going_inside c.loop-at.invariant.1 (omega arith) _ c.byte_at.ensures.0 c.requires)

pub loop-at-preserved : goal.loop-at-preserved
loop-at-preserved c =
    (going_inside c.loop-at.invariant.1 (omega arith) _ c.byte_at.ensures.0 c.requires, going_on c.loop-at.invariant.1 (omega arith) _ c.byte_at.ensures.0 (sym c.field_holds.ensures ∙ c.if-not-field_holds.false))

pub returns : goal.returns
returns c = going_end c.loop-at.invariant.1 (omega arith)
