use Prim.Native.Nat.{◌+◌, ◌-◌, ◌<◌}
use native.Mathlib.Omega.{arith}
use mathlib.Core.Path.{◌≡◌, refl, ap, ◌∙◌}
use lib.ListN.{length, take, drop}
use Rattle.rank.specs.candidates.Each.{same_parts, done_start, next_inside, done_turn, done_all}
use Rattle.rank.proofs.candidates.evaluate_all.Goals as goal

pub smaller-a-requires : goal.smaller-a-requires
smaller-a-requires c = tt

pub smaller-b-requires : goal.smaller-b-requires
smaller-b-requires c = tt

pub loop-i-init : goal.loop-i-init
loop-i-init c = (
  done_start c.args.program.now c.args.lengths.now c.args.kinds.now c.args.values.now c.args.list.now c.args.registers.now c.args.places.now c.requires.2
      c.smaller-a.result c.smaller-b.result c.smaller-a.ensures c.smaller-b.ensures,
  refl,
  refl,
  refl,
)

pub word_at-requires : goal.word_at-requires
word_at-requires c = omega arith

pub overflow_add-end : goal.overflow_add-end
overflow_add-end c = record { fits = omega (arith, c.word_at.ensures.0, next_inside c.args.program.now c.args.lengths.now c.args.kinds.now c.args.values.now c.args.list.now c.args.registers.now c.args.places.now c.loop-i.invariant.0 (omega arith), c.well_formed.1.1.1.1.0.0) }

pub slice_bounds-evaluate-count : goal.slice_bounds-evaluate-count
slice_bounds-evaluate-count c = omega arith

pub slice_bounds-evaluate-start : goal.slice_bounds-evaluate-start
slice_bounds-evaluate-start c = omega (arith, c.word_at.ensures.0, next_inside c.args.program.now c.args.lengths.now c.args.kinds.now c.args.values.now c.args.list.now c.args.registers.now c.args.places.now c.loop-i.invariant.0 (omega arith))

pub slice_bounds-evaluate-end : goal.slice_bounds-evaluate-end
slice_bounds-evaluate-end c = omega (arith, c.word_at.ensures.0, next_inside c.args.program.now c.args.lengths.now c.args.kinds.now c.args.values.now c.args.list.now c.args.registers.now c.args.places.now c.loop-i.invariant.0 (omega arith))

pub offset_bounds-values-at : goal.offset_bounds-values-at
offset_bounds-values-at c = record { fits = omega (arith, c.word_at.ensures.0, next_inside c.args.program.now c.args.lengths.now c.args.kinds.now c.args.values.now c.args.list.now c.args.registers.now c.args.places.now c.loop-i.invariant.0 (omega arith), c.requires.1, c.well_formed.1.1.1.1.1.0.1) }

pub slice_bounds-evaluate-count-in-loop-i : goal.slice_bounds-evaluate-count-in-loop-i
slice_bounds-evaluate-count-in-loop-i c = omega arith

pub evaluate-done-requires : goal.evaluate-done-requires
evaluate-done-requires c =
    let l = c.loop-i in
    let n = c.word_at.result in
    (c.requires.0, same_parts c.args.kinds.now c.args.values.now l.at (l.at + n - l.at) c.requires.1, l.invariant.0.clean)

pub put-requires : goal.put-requires
put-requires c =
    omega (arith, c.requires.3, c.loop-i.invariant.3)

pub loop-i-preserved : goal.loop-i-preserved
loop-i-preserved c =
    let l = c.loop-i in
    let w = c.word_at in
    let e = c.evaluate-done in
    let p = c.put in
    let some : l.i < length c.args.lengths.now = omega arith in
    let n : l.at + w.result - l.at ≡ w.result = omega arith in (
      done_turn c.args.program.now c.args.lengths.now c.args.kinds.now c.args.values.now c.args.list.now c.args.registers.now c.args.places.now
          l.invariant.0 some w.result w.ensures.0 _ _ (ap (λ k. take k (drop l.at c.args.kinds.now)) n) (ap (λ k. take k (drop l.at c.args.values.now)) n)
          e.new.registers e.new.places e.result e.ensures (omega (arith, some, c.requires.3, l.invariant.3)) p.new.list p.ensures,
      e.auto.registers ∙ l.invariant.1,
      e.auto.places ∙ l.invariant.2,
      p.auto.list ∙ l.invariant.3,
    )

pub shape_of-registers : goal.shape_of-registers
shape_of-registers c = c.loop-i.invariant.1

pub shape_of-places : goal.shape_of-places
shape_of-places c = c.loop-i.invariant.2

pub shape_of-list : goal.shape_of-list
shape_of-list c = c.loop-i.invariant.3

pub returns : goal.returns
returns c =
    done_all c.args.program.now c.args.lengths.now c.args.kinds.now c.args.values.now c.args.list.now c.args.registers.now c.args.places.now c.loop-i.invariant.0 (omega arith)
