use mir.Syntax.{w32}
use mir.Val.{to_z, of_z}
use mir.Facts.{to_z-of_z}
use mathlib.Core.Path.{◌≡◌, sym, ap, ◌∙◌}
use native.Mathlib.Omega.{arith}
use Rattle.meaning.specs.PublicCalls.{stacks_of}
use Rattle.refusals.specs.Numbers.{refusal_number, refusal_or_zero}
use Rattle.run_lent.specs.Judging.{refused_number}
use Rattle.records.specs.Records.{state_is}
use lib.Seq.{length-take-le}
use Rattle.meaning.specs.Calls.{refused}
use Rattle.meaning_preview.specs.Preview.{turned, tokens, may_effect, may_follow, may_of, tidied}
use Rattle.preview.specs.judging.Judging.{copied_back}
use Rattle.preview.specs.cells.Answering.{scratch_long, cells_judged, cells_alike}
use Rattle.preview.specs.Answering.{may_made}
use Rattle.preview.specs.May.{may_effect_is}
use Rattle.preview.specs.declared.May.TheVariants.{Turned}
use Rattle.preview.proofs.may_cells.Goals as goal

pub returns-in-Err : goal.returns-in-Err
returns-in-Err c =
    let a = c.args in
    let r = state_is a.brought in
    let m = stacks_of a.registers.now a.places.now in
    let s = stacks_of a.scratch_registers.now a.scratch_places.now in
    let w = a.program.now in
    let was = ap refusal_or_zero c.in-Err.is in
    λ g x. ap (λ z. may_effect_is (Turned z) a.scratch_registers.now a.scratch_places.now w) c.turned_back.ensures ∙ copied_back g r m s (λ n. may_effect (turned (refused n 0)) s w) (may_effect (tokens (may_follow g r m s a.value)) (tidied m s) w) (refusal_number c.in-Err.refusal) (sym was ∙ c.judge.ensures g x) (λ z. omega (arith, z, refused_number c.in-Err.refusal))

pub slice_bounds-may_lent-end : goal.slice_bounds-may_lent-end
slice_bounds-may_lent-end c = sym (length-take-le _ _ (omega (arith, c.smaller-n.ensures)))

pub slice_bounds-may_lent-end-2 : goal.slice_bounds-may_lent-end-2
slice_bounds-may_lent-end-2 c = sym (length-take-le _ _ (omega (arith, c.smaller-k.ensures)))

pub slice_bounds-may_lent-end-3 : goal.slice_bounds-may_lent-end-3
slice_bounds-may_lent-end-3 c = (scratch_long c.requires (state_is c.args.brought) c.args.registers.now c.args.scratch_registers.now c.args.places.now c.args.scratch_places.now c.smaller-n.result c.smaller-k.result c.smaller-n.ensures c.smaller-k.ensures (λ g y. sym (ap refusal_or_zero c.in_default.is) ∙ c.judge.ensures g y)).0

pub slice_bounds-may_lent-end-4 : goal.slice_bounds-may_lent-end-4
slice_bounds-may_lent-end-4 c = sym (length-take-le _ _ (scratch_long c.requires (state_is c.args.brought) c.args.registers.now c.args.scratch_registers.now c.args.places.now c.args.scratch_places.now c.smaller-n.result c.smaller-k.result c.smaller-n.ensures c.smaller-k.ensures (λ g y. sym (ap refusal_or_zero c.in_default.is) ∙ c.judge.ensures g y)).0)

pub slice_bounds-may_lent-end-5 : goal.slice_bounds-may_lent-end-5
slice_bounds-may_lent-end-5 c = (scratch_long c.requires (state_is c.args.brought) c.args.registers.now c.args.scratch_registers.now c.args.places.now c.args.scratch_places.now c.smaller-n.result c.smaller-k.result c.smaller-n.ensures c.smaller-k.ensures (λ g y. sym (ap refusal_or_zero c.in_default.is) ∙ c.judge.ensures g y)).1

pub slice_bounds-may_lent-end-6 : goal.slice_bounds-may_lent-end-6
slice_bounds-may_lent-end-6 c = sym (length-take-le _ _ (scratch_long c.requires (state_is c.args.brought) c.args.registers.now c.args.scratch_registers.now c.args.places.now c.args.scratch_places.now c.smaller-n.result c.smaller-k.result c.smaller-n.ensures c.smaller-k.ensures (λ g y. sym (ap refusal_or_zero c.in_default.is) ∙ c.judge.ensures g y)).1)

pub may_lent-requires : goal.may_lent-requires
may_lent-requires c =
    let a = c.args in (
      cells_judged c.requires (state_is a.brought) a.registers.now a.scratch_registers.now a.places.now a.scratch_places.now c.smaller-n.result c.smaller-k.result c.smaller-n.ensures
          c.smaller-k.ensures (λ g y. sym (ap refusal_or_zero c.in_default.is) ∙ c.judge.ensures g y),
      cells_alike c.requires (state_is a.brought) a.registers.now a.scratch_registers.now a.places.now a.scratch_places.now c.smaller-n.result
          c.smaller-k.result c.smaller-n.ensures c.smaller-k.ensures (λ g y. sym (ap refusal_or_zero c.in_default.is) ∙ c.judge.ensures g y),
    )

pub returns : goal.returns
returns c =
    let f = c.may_lent in
    let a = c.args in
    let v = to_z w32 (of_z w32 a.value) in
    let e : v ≡ a.value = to_z-of_z c.ranges.value in
    λ g x. may_made (state_is a.brought) a.registers.now a.scratch_registers.now a.places.now a.scratch_places.now c.smaller-n.result c.smaller-k.result c.smaller-n.ensures
    c.smaller-k.ensures (λ g y. sym (ap refusal_or_zero c.in_default.is) ∙ c.judge.ensures g y) v f.result a.program.now f.new.scratch_registers f.new.scratch_places f.ensures g x
    ∙ ap (λ z. may_of g (state_is a.brought) (stacks_of a.registers.now a.places.now) (stacks_of a.scratch_registers.now a.scratch_places.now) z a.program.now) e
