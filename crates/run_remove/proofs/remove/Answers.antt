use Rattle.theory_program.specs.Parts.{head_operand}
use lib.ListN.{length, length-set}
use Prim.Native.Nat.{◌+◌, ◌-◌, ◌<◌}
use Rattle.run_moves.specs.Passing.{removal, popped_small, resumes, resumed_at, resume_inside, made_remove}
use Rattle.run_moves.specs.Held.{bounds}
use mathlib.Core.Path.{◌∙◌, ap}
use native.Mathlib.Omega.{arith}
use Rattle.run_remove.proofs.remove.Goals.{After-onward-at}
use Rattle.run_remove.proofs.remove.Goals as goal

-- the code from which the place below goes on is in the program
going : (c : After-onward-at) → c.onward-at.result + 1 < length c.args.program.now
going c =
    let b = c.requires.0 in
    let r = removal b.held b.operation in
    rw (resumed_at b.held r _ _ c.word_at-waiting.ensures.0 c.onward-at.ensures.0) (resume_inside b.held r b.limit)

pub word_at-requires : goal.word_at-requires
word_at-requires c = (bounds c.requires.0.held).inside

pub remove-requires : goal.remove-requires
remove-requires c = let b = c.requires.0 in ((bounds b.held).registers, rw (c.operand-n.ensures ∙ ap head_operand c.word_at.ensures.0) (removal b.held b.operation).fits)

pub overflow_sub-height : goal.overflow_sub-height
overflow_sub-height c = (bounds c.requires.0.held).some_place

pub overflow_sub-height-2 : goal.overflow_sub-height-2
overflow_sub-height-2 c = let b = c.requires.0 in omega (arith, (removal b.held b.operation).some_places)

pub word_at-waiting-requires : goal.word_at-waiting-requires
word_at-waiting-requires c = let b = c.requires.0 in omega (arith, (bounds b.held).places, (bounds b.held).some_place)

pub onward-at-requires : goal.onward-at-requires
onward-at-requires c =
    let p = c.requires in
    let b = p.0 in
    let r = removal b.held b.operation in
    (rw (c.word_at-waiting.ensures.0 ∙ r.is_place) (resumes b.held r), p.1)

pub overflow_add-at : goal.overflow_add-at
overflow_add-at c = omega (arith, going (record { before = c.before.before.before; type_inv = record { program = c.before.before.before.shared_slice_known-1.given } }))

pub offset_bounds-places-height : goal.offset_bounds-places-height
offset_bounds-places-height c = let b = c.requires.0 in omega (arith, (bounds b.held).places)

pub bounds-places-height : goal.bounds-places-height
bounds-places-height c = let b = c.requires.0 in omega (arith, (bounds b.held).places, (bounds b.held).some_place)

pub pass_symbol-requires : goal.pass_symbol-requires
pass_symbol-requires c =
    let s = c in
    let b = s.requires.0 in
    let r = removal b.held b.operation in
    ((omega (arith, r.some_places), omega (arith, (bounds b.held).places, length-set s.args.places.now (s.args.run.places - 1) 0), popped_small b.held r), going (record { before = c.before.before.before.before; type_inv = record { program = c.before.before.before.before.shared_slice_known-1.given } }))

pub overflow_sub-result : goal.overflow_sub-result
overflow_sub-result c =
    let b = c.requires.0 in
    rw (c.operand-n.ensures ∙ ap head_operand c.word_at.ensures.0) (removal b.held b.operation).fits

pub shape_of-places : goal.shape_of-places
shape_of-places c =
    let s = c in
    c.pass_symbol.auto.places ∙ length-set s.args.places.now (s.args.run.places - 1) 0

pub returns : goal.returns
returns c =
    let pass = c.pass_symbol in
    let onward = c.onward-at in
    let word-at2 = c.word_at-waiting in
    let remove = c.remove in
    let operand = c.operand-n.ensures ∙ ap head_operand c.word_at.ensures.0 in
    let b = c.requires.0 in (
      λ look g lent d h ok.
          let r = removal h b.operation in
          rw (c.counted-next.ensures, operand) (made_remove h r look ok b.limit _ _ onward.result (resumed_at h r _ _ word-at2.ensures.0 onward.ensures.0) (rw operand at remove.ensures) pass.ensures),
      onward.ensures.1,
    )
