use mathlib.Core.Path.{sym, ap, ◌∙◌}
use mathlib.Core.List.{◌++◌}
use lib.ListN.{drop, replicate, set}
use lib.Seq.{length-take-le}
use Rattle.meaning.specs.Grammar.{segment_place}
use Rattle.meaning.specs.Value.{mark}
use Rattle.rank.specs.afresh.Opening.{all_cleared}
use Rattle.rank.proofs.afresh.open_again.Goals as goal

pub slice_bounds-clear_registers-end-2 : goal.slice_bounds-clear_registers-end-2
slice_bounds-clear_registers-end-2 c = sym (length-take-le c.args.a c.args.registers.now c.requires.0.few)

pub slice_bounds-clear_places-end-2 : goal.slice_bounds-clear_places-end-2
slice_bounds-clear_places-end-2 c = sym (length-take-le c.args.b c.args.places.now c.requires.0.little)

pub returns : goal.returns
returns c =
    let k = c.requires.0 in
    let r = c.clear_registers.ensures in
    let p = c.clear_places.ensures in
    let a = c.args.a in
    let b = c.args.b in
    let n = length-take-le a c.args.registers.now k.few in
    let m = length-take-le b c.args.places.now k.little in (
      ap (λ z. z ++ drop a c.args.registers.now) (r ∙ ap (λ i. replicate i mark) n) ∙ all_cleared mark c.args.registers.now a k.few k.registers,
      ap (λ z. set z 0 segment_place) (ap (λ z. z ++ drop b c.args.places.now) (p ∙ ap (λ i. replicate i 0) m) ∙ all_cleared 0 c.args.places.now b k.little k.places),
    )
