use Rattle.std.proofs.Common.{◌≡◌, ◌-◌, ◌<◌, length, take, drop, sym, ◌∙◌, arith}
use Rattle.meaning.specs.Table.{byte}
use Rattle.clash_entries.specs.conditions.Walk.{going_start, going_done, going_over, going_proper, going_inside, going_more}
use Rattle.clash_entries.specs.conditions.EntryConditions.{rank_by, raise_by, lower_by, stretch_inside}
use Rattle.clash_entries.proofs.conditions.entry.narrow_by.Goals as goal

pub loop-at-init : goal.loop-at-init
loop-at-init c =
    let x = c.requires in
    let e = c.field_size-at.ensures.0 in
    (omega (arith, stretch_inside _ _ x.1, e), λ p y. (going_start rank_by _ p _ _ e y, going_start raise_by _ p _ _ e y, going_start lower_by _ p _ _ e y))

pub slice_bounds-field-count : goal.slice_bounds-field-count
slice_bounds-field-count c = omega arith

pub slice_bounds-field-start : goal.slice_bounds-field-start
slice_bounds-field-start c = omega arith

pub slice_bounds-field-end : goal.slice_bounds-field-end
slice_bounds-field-end c = omega arith

pub returns-then-byte_at-eq3 : goal.returns-then-byte_at-eq3
returns-then-byte_at-eq3 c =
    let e = sym c.byte_at.ensures.0 ∙ c.if-byte_at-eq3.true in
    record { said = λ p x. going_over (c.loop-at.invariant.1 p x).0 e; low = λ p x. going_over (c.loop-at.invariant.1 p x).1 e; high = λ p x. going_over (c.loop-at.invariant.1 p x).2 e }

pub narrow-found-requires : goal.narrow-found-requires
narrow-found-requires c =
    let within : c.loop-at.at < length (c.args.stretch.now) = c.loop-at-test.true in
    let other : byte (take (length (c.args.stretch.now) - c.loop-at.at) (drop c.loop-at.at (c.args.stretch.now))) 0 ≡ 3 → ⊥ = λ e. c.if-byte_at-eq3.false (c.byte_at.ensures.0 ∙ e) in
    let x = c.requires in
    going_proper (c.loop-at.invariant.1 x.0 x.1).0 within other

pub overflow_add-at : goal.overflow_add-at
overflow_add-at c = omega (arith, c.field_size-at-in-loop-at.ensures.0)

pub loop-at-smaller : goal.loop-at-smaller
loop-at-smaller c =
    let within : c.loop-at.at < length (c.args.stretch.now) = c.loop-at-test.true in
    let other : byte (take (length (c.args.stretch.now) - c.loop-at.at) (drop c.loop-at.at (c.args.stretch.now))) 0 ≡ 3 → ⊥ = λ e. c.if-byte_at-eq3.false (c.byte_at.ensures.0 ∙ e) in
    let x = c.requires in
    omega (arith, going_inside (c.loop-at.invariant.1 x.0 x.1).0 within other _ c.field_size-at-in-loop-at.ensures.0, c.field_size-at-in-loop-at.ensures.1)

pub loop-at-preserved : goal.loop-at-preserved
loop-at-preserved c =
    let within : c.loop-at.at < length (c.args.stretch.now) = c.loop-at-test.true in
    let other : byte (take (length (c.args.stretch.now) - c.loop-at.at) (drop c.loop-at.at (c.args.stretch.now))) 0 ≡ 3 → ⊥ = λ e. c.if-byte_at-eq3.false (c.byte_at.ensures.0 ∙ e) in
    let x = c.requires in
    let n = c.narrow-found.ensures in
    let z = c.field_size-at-in-loop-at.ensures.0 in (
      going_inside (c.loop-at.invariant.1 x.0 x.1).0 within other _ z,
      λ p y.
          let w = c.loop-at.invariant.1 p y in
          (going_more w.0 within other _ z _ n.said, going_more w.1 within other _ z _ n.low, going_more w.2 within other _ z _ n.high),
    )

pub returns : goal.returns
returns c =
    let e = c.loop-at-test.false in
    record { said = λ p x. going_done (c.loop-at.invariant.1 p x).0 e; low = λ p x. going_done (c.loop-at.invariant.1 p x).1 e; high = λ p x. going_done (c.loop-at.invariant.1 p x).2 e }
