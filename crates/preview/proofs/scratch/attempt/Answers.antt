use native.Mathlib.Omega.{arith}
use mathlib.Core.Path.{◌≡◌, refl, sym, ap, subst}
use mir.Syntax.{w32}
use mir.Val.{to_z, of_z}
use mir.Facts.{to_z-of_z}
use lib.Seq.{length-take-le}
use mathlib.Core.List.{[], ◌∷◌}
use Rattle.run_machine.specs.Feeding.{Feeds}
use Rattle.run_moves.specs.declared.Run.{Run}
use Rattle.preview.specs.scratch.Scratch.{registers_inside, places_inside, scratch_registers_inside, scratch_places_inside, running_copied, fed_copied, registers_reached, places_reached, cleared_by}
use Rattle.preview.proofs.scratch.attempt.Goals as goal

-- src/scratch.rt:61:5
pub copy-requires : goal.copy-requires
copy-requires c = let p = c.requires in (registers_inside p.0, scratch_registers_inside p.0 p.1)

-- src/scratch.rt:62:5
pub copy-requires-2 : goal.copy-requires-2
copy-requires-2 c = let p = c.requires in (places_inside p.0, scratch_places_inside p.0 p.1)

-- src/scratch.rt:65:9
pub feed-ended-requires : goal.feed-ended-requires
feed-ended-requires c =
    let p = c.requires in
    (running_copied p.0 p.1 _ _ c.copy.ensures c.copy-2.ensures, refl)

-- src/scratch.rt:67:27
pub slice_bounds-clear_registers-end : goal.slice_bounds-clear_registers-end
slice_bounds-clear_registers-end c =
    let f = c.feed-ended in
    let a = c.args in
    let e : to_z w32 (of_z w32 a.value) ≡ a.value = to_z-of_z c.ranges.value in
    let fed : Feeds a.program.now (a.kind ∷ []) (a.value ∷ []) a.registers.now a.places.now a.run f.new.registers f.new.places f.result =
    subst (λ z. Feeds a.program.now (a.kind ∷ []) (z ∷ []) a.registers.now a.places.now a.run f.new.registers f.new.places f.result) e
    (fed_copied c.requires.0 c.requires.1 _ _ c.copy.ensures c.copy-2.ensures a.kind (to_z w32 (of_z w32 a.value)) f.new.registers f.new.places f.result f.ensures) in
    omega (arith, ap (λ (z : Run). z.registers) c.reached-last.ensures, registers_reached c.requires.0 c.args.kind c.args.value f.new.registers f.new.places f.result fed)

-- src/scratch.rt:67:27
pub slice_bounds-clear_registers-end-2 : goal.slice_bounds-clear_registers-end-2
slice_bounds-clear_registers-end-2 c =
    let f = c.feed-ended in
    let a = c.args in
    let e : to_z w32 (of_z w32 a.value) ≡ a.value = to_z-of_z c.ranges.value in
    let fed : Feeds a.program.now (a.kind ∷ []) (a.value ∷ []) a.registers.now a.places.now a.run f.new.registers f.new.places f.result =
    subst (λ z. Feeds a.program.now (a.kind ∷ []) (z ∷ []) a.registers.now a.places.now a.run f.new.registers f.new.places f.result) e
    (fed_copied c.requires.0 c.requires.1 _ _ c.copy.ensures c.copy-2.ensures a.kind (to_z w32 (of_z w32 a.value)) f.new.registers f.new.places f.result f.ensures) in
    sym (length-take-le _ _ (omega (arith, ap (λ (z : Run). z.registers) c.reached-last.ensures, registers_reached c.requires.0 c.args.kind c.args.value f.new.registers f.new.places f.result fed)))

-- src/scratch.rt:68:24
pub slice_bounds-clear_places-end : goal.slice_bounds-clear_places-end
slice_bounds-clear_places-end c =
    let f = c.feed-ended in
    let a = c.args in
    let e : to_z w32 (of_z w32 a.value) ≡ a.value = to_z-of_z c.ranges.value in
    let fed : Feeds a.program.now (a.kind ∷ []) (a.value ∷ []) a.registers.now a.places.now a.run f.new.registers f.new.places f.result =
    subst (λ z. Feeds a.program.now (a.kind ∷ []) (z ∷ []) a.registers.now a.places.now a.run f.new.registers f.new.places f.result) e
    (fed_copied c.requires.0 c.requires.1 _ _ c.copy.ensures c.copy-2.ensures a.kind (to_z w32 (of_z w32 a.value)) f.new.registers f.new.places f.result f.ensures) in
    omega (arith, ap (λ (z : Run). z.places) c.reached-last.ensures, places_reached c.requires.0 c.args.kind c.args.value f.new.registers f.new.places f.result fed)

-- src/scratch.rt:68:24
pub slice_bounds-clear_places-end-2 : goal.slice_bounds-clear_places-end-2
slice_bounds-clear_places-end-2 c =
    let f = c.feed-ended in
    let a = c.args in
    let e : to_z w32 (of_z w32 a.value) ≡ a.value = to_z-of_z c.ranges.value in
    let fed : Feeds a.program.now (a.kind ∷ []) (a.value ∷ []) a.registers.now a.places.now a.run f.new.registers f.new.places f.result =
    subst (λ z. Feeds a.program.now (a.kind ∷ []) (z ∷ []) a.registers.now a.places.now a.run f.new.registers f.new.places f.result) e
    (fed_copied c.requires.0 c.requires.1 _ _ c.copy.ensures c.copy-2.ensures a.kind (to_z w32 (of_z w32 a.value)) f.new.registers f.new.places f.result f.ensures) in
    sym (length-take-le _ _ (omega (arith, ap (λ (z : Run). z.places) c.reached-last.ensures, places_reached c.requires.0 c.args.kind c.args.value f.new.registers f.new.places f.result fed)))

-- src/scratch.rt:48:1
pub returns : goal.returns
returns c =
    let f = c.feed-ended in
    let a = c.args in
    let e : to_z w32 (of_z w32 a.value) ≡ a.value = to_z-of_z c.ranges.value in
    let fed : Feeds a.program.now (a.kind ∷ []) (a.value ∷ []) a.registers.now a.places.now a.run f.new.registers f.new.places f.result =
    subst (λ z. Feeds a.program.now (a.kind ∷ []) (z ∷ []) a.registers.now a.places.now a.run f.new.registers f.new.places f.result) e
    (fed_copied c.requires.0 c.requires.1 _ _ c.copy.ensures c.copy-2.ensures a.kind (to_z w32 (of_z w32 a.value)) f.new.registers f.new.places f.result f.ensures) in
    let clear_places = c.clear_places in
    let clear_registers = c.clear_registers in
    let reached = c.reached-last in (
      record { registers = f.new.registers; places = f.new.places; fed = fed },
      cleared_by c.requires.0 c.args.kind c.args.value f.new.registers f.new.places f.result fed reached.result reached.ensures clear_registers.new.registers clear_places.new.places clear_registers.ensures clear_places.ensures,
    )
