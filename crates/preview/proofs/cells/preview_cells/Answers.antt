use mir.Syntax.{w32}
use mir.Val.{to_z, of_z}
use mir.Facts.{to_z-of_z}
use mathlib.Core.Path.{◌≡◌, sym, ap, ◌∙◌}
use native.Mathlib.Omega.{arith}
use Rattle.meaning.specs.PublicCalls.{stacks_of}
use Rattle.refusals.specs.Numbers.{refusal_number, refusal_or_zero}
use Rattle.records.specs.States.{brought_back}
use Rattle.run_lent.specs.Judging.{refused_number}
use Rattle.records.specs.Records.{state_is, handed_is}
use lib.Seq.{length-take-le}
use Rattle.meaning.specs.Calls.{as_brought, refused}
use Rattle.meaning_preview.specs.Preview.{tried, preview_of}
use Rattle.preview.specs.judging.Judging.{copied_back}
use Rattle.preview.specs.cells.Answering.{scratch_long, cells_judged, cells_alike, preview_made}
use Rattle.preview.proofs.cells.preview_cells.Goals as goal

pub returns-in-Err : goal.returns-in-Err
returns-in-Err c =
    let a = c.args in
    let r = state_is a.brought in
    let m = stacks_of a.registers.now a.places.now in
    let s = stacks_of a.scratch_registers.now a.scratch_places.now in
    let turned = ap refusal_or_zero c.in-Err.is in
    λ g x. ap (λ z. handed_is z a.scratch_registers.now a.scratch_places.now) (c.as_brought.ensures ∙ ap (brought_back a.brought) c.turned_back.ensures) ∙ copied_back g r m s (λ n. as_brought (refused n 0) r s) (tried g r m s a.kind a.value) (refusal_number c.in-Err.refusal) (sym turned ∙ c.judge.ensures g x) (λ z. omega (arith, z, refused_number c.in-Err.refusal))

pub slice_bounds-preview_lent-end : goal.slice_bounds-preview_lent-end
slice_bounds-preview_lent-end c = sym (length-take-le _ _ (omega (arith, c.smaller-n.ensures)))

pub slice_bounds-preview_lent-end-2 : goal.slice_bounds-preview_lent-end-2
slice_bounds-preview_lent-end-2 c = sym (length-take-le _ _ (omega (arith, c.smaller-k.ensures)))

pub slice_bounds-preview_lent-end-3 : goal.slice_bounds-preview_lent-end-3
slice_bounds-preview_lent-end-3 c = (scratch_long c.requires (state_is c.args.brought) c.args.registers.now c.args.scratch_registers.now c.args.places.now c.args.scratch_places.now c.smaller-n.result c.smaller-k.result c.smaller-n.ensures c.smaller-k.ensures (λ g y. sym (ap refusal_or_zero c.in_default.is) ∙ c.judge.ensures g y)).0

pub slice_bounds-preview_lent-end-4 : goal.slice_bounds-preview_lent-end-4
slice_bounds-preview_lent-end-4 c = sym (length-take-le _ _ (scratch_long c.requires (state_is c.args.brought) c.args.registers.now c.args.scratch_registers.now c.args.places.now c.args.scratch_places.now c.smaller-n.result c.smaller-k.result c.smaller-n.ensures c.smaller-k.ensures (λ g y. sym (ap refusal_or_zero c.in_default.is) ∙ c.judge.ensures g y)).0)

pub slice_bounds-preview_lent-end-5 : goal.slice_bounds-preview_lent-end-5
slice_bounds-preview_lent-end-5 c = (scratch_long c.requires (state_is c.args.brought) c.args.registers.now c.args.scratch_registers.now c.args.places.now c.args.scratch_places.now c.smaller-n.result c.smaller-k.result c.smaller-n.ensures c.smaller-k.ensures (λ g y. sym (ap refusal_or_zero c.in_default.is) ∙ c.judge.ensures g y)).1

pub slice_bounds-preview_lent-end-6 : goal.slice_bounds-preview_lent-end-6
slice_bounds-preview_lent-end-6 c = sym (length-take-le _ _ (scratch_long c.requires (state_is c.args.brought) c.args.registers.now c.args.scratch_registers.now c.args.places.now c.args.scratch_places.now c.smaller-n.result c.smaller-k.result c.smaller-n.ensures c.smaller-k.ensures (λ g y. sym (ap refusal_or_zero c.in_default.is) ∙ c.judge.ensures g y)).1)

pub preview_lent-requires : goal.preview_lent-requires
preview_lent-requires c =
    let a = c.args in
    let registers = a.registers.now in
    let scratch_registers = a.scratch_registers.now in
    let places = a.places.now in
    let scratch_places = a.scratch_places.now in (
      cells_judged c.requires (state_is a.brought) registers scratch_registers places scratch_places c.smaller-n.result c.smaller-k.result c.smaller-n.ensures c.smaller-k.ensures (λ g y. sym (ap refusal_or_zero c.in_default.is) ∙ c.judge.ensures g y),
      cells_alike c.requires (state_is a.brought) registers scratch_registers places scratch_places c.smaller-n.result c.smaller-k.result c.smaller-n.ensures c.smaller-k.ensures (λ g y. sym (ap refusal_or_zero c.in_default.is) ∙ c.judge.ensures g y),
    )

pub returns : goal.returns
returns c =
    let f = c.preview_lent in
    let a = c.args in
    let v = to_z w32 (of_z w32 a.value) in
    let e : v ≡ a.value = to_z-of_z c.ranges.value in
    let registers = a.registers.now in
    let scratch_registers = a.scratch_registers.now in
    let places = a.places.now in
    let scratch_places = a.scratch_places.now in
    λ g x.
    preview_made c.requires (state_is a.brought) registers scratch_registers places scratch_places c.smaller-n.result c.smaller-k.result c.smaller-n.ensures c.smaller-k.ensures
    (λ g y. sym (ap refusal_or_zero c.in_default.is) ∙ c.judge.ensures g y) a.kind v f.result f.new.scratch_registers f.new.scratch_places f.ensures g x ∙ ap
    (preview_of g (state_is a.brought) (stacks_of registers places) (stacks_of scratch_registers scratch_places) a.kind) e
