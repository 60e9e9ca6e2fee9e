use Rattle.std.proofs.Common.{◌≡◌, ◌-◌, ◌<◌, length, take, drop, sym, ◌∙◌, arith}
use Rattle.meaning.specs.Table.{byte}
use Rattle.clash_entries.specs.conditions.Walk.{going_start, going_done, going_over, going_proper, going_inside, going_more}
use Rattle.meaning.specs.Differences.{constrained}
use Rattle.clash_entries.specs.conditions.EntryConditions.{stretch_inside}
use Rattle.clash_entries.proofs.constrain_by.Goals as goal

pub loop-at-init : goal.loop-at-init
loop-at-init c =
    let x = c.requires in
    (omega (arith, stretch_inside _ _ x.1.1, c.field_size-at.ensures.0), x.0, (λ p y. going_start constrained _ p _ _ c.field_size-at.ensures.0 y), λ f. f)

pub slice_bounds-field-count : goal.slice_bounds-field-count
slice_bounds-field-count c = omega arith

pub slice_bounds-field-start : goal.slice_bounds-field-start
slice_bounds-field-start c = omega arith

pub slice_bounds-field-end : goal.slice_bounds-field-end
slice_bounds-field-end c = omega arith

pub shape_of-m-then-byte_at-eq3 : goal.shape_of-m-then-byte_at-eq3
shape_of-m-then-byte_at-eq3 c = c.loop-at.invariant.1 ∙ sym c.requires.0

pub returns-then-byte_at-eq3 : goal.returns-then-byte_at-eq3
returns-then-byte_at-eq3 c =
    record { met = (λ p x. going_over (c.loop-at.invariant.2 p x) (sym c.byte_at.ensures.0 ∙ c.if-byte_at-eq3.true)); small = c.loop-at.invariant.3 }

pub constrain-requires : goal.constrain-requires
constrain-requires c =
    let within : c.loop-at.at < length (c.args.stretch.now) = c.loop-at-test.true in
    let other : byte (take (length (c.args.stretch.now) - c.loop-at.at) (drop c.loop-at.at (c.args.stretch.now))) 0 ≡ 3 → ⊥ = λ e. c.if-byte_at-eq3.false (c.byte_at.ensures.0 ∙ e) in
    let x = c.requires.1 in
    (c.loop-at.invariant.1, going_proper (c.loop-at.invariant.2 x.0 x.1) within other)

pub overflow_add-at : goal.overflow_add-at
overflow_add-at c =
    let within : c.loop-at.at < length (c.args.stretch.now) = c.loop-at-test.true in
    omega (arith, c.field_size-at-in-loop-at.ensures.1, within)

pub loop-at-smaller : goal.loop-at-smaller
loop-at-smaller c =
    let within : c.loop-at.at < length (c.args.stretch.now) = c.loop-at-test.true in
    let other : byte (take (length (c.args.stretch.now) - c.loop-at.at) (drop c.loop-at.at (c.args.stretch.now))) 0 ≡ 3 → ⊥ = λ e. c.if-byte_at-eq3.false (c.byte_at.ensures.0 ∙ e) in
    let x = c.requires.1 in
    omega (arith, going_inside (c.loop-at.invariant.2 x.0 x.1) within other _ c.field_size-at-in-loop-at.ensures.0, c.field_size-at-in-loop-at.ensures.1)

pub loop-at-preserved : goal.loop-at-preserved
loop-at-preserved c =
    let within : c.loop-at.at < length (c.args.stretch.now) = c.loop-at-test.true in
    let other : byte (take (length (c.args.stretch.now) - c.loop-at.at) (drop c.loop-at.at (c.args.stretch.now))) 0 ≡ 3 → ⊥ = λ e. c.if-byte_at-eq3.false (c.byte_at.ensures.0 ∙ e) in
    let x = c.requires.1 in
    let n = c.constrain in (
      going_inside (c.loop-at.invariant.2 x.0 x.1) within other _ c.field_size-at-in-loop-at.ensures.0,
      n.auto.m ∙ c.loop-at.invariant.1,
      (λ p y. going_more (c.loop-at.invariant.2 p y) within other _ c.field_size-at-in-loop-at.ensures.0 _ n.ensures.met),
      λ f. n.ensures.small (c.loop-at.invariant.3 f),
    )

pub shape_of-m : goal.shape_of-m
shape_of-m c = c.loop-at.invariant.1 ∙ sym c.requires.0

pub returns : goal.returns
returns c = record { met = (λ p x. going_done (c.loop-at.invariant.2 p x) c.loop-at-test.false); small = c.loop-at.invariant.3 }
