use native.Mathlib.Omega.{arith}
use mathlib.Core.Path.{sym, ◌∙◌, subst₂}
use lib.ListN.{take, length-take}
use lib.Seq.{length-take-le}
use Rattle.rank.specs.afresh.Opening.{Clean}
use Rattle.rank.specs.evaluate.Ran.{evaluated_as}
use Rattle.rank.proofs.evaluate.evaluate.Goals as goal

pub slice_bounds-on_lent-end-2 : goal.slice_bounds-on_lent-end-2
slice_bounds-on_lent-end-2 c = sym (length-take-le _ _ (omega (arith, c.smaller-n.ensures)))

pub slice_bounds-on_lent-end-4 : goal.slice_bounds-on_lent-end-4
slice_bounds-on_lent-end-4 c = sym (length-take-le _ _ (omega (arith, c.smaller-k.ensures)))

pub on_lent-requires : goal.on_lent-requires
on_lent-requires c =
    let n = c.smaller-n in
    let k = c.smaller-k in
    let registers = c.args.registers.now in
    let places = c.args.places.now in
    (omega (arith, length-take n.result registers, n.ensures), omega (arith, length-take k.result places, k.ensures), c.requires.0, c.requires.1, subst₂ (λ x y. Clean (take x registers) (take y places) c.args.a c.args.b) (sym n.ensures) (sym k.ensures) c.requires.2)

pub returns : goal.returns
returns c =
    let n = c.smaller-n in
    let k = c.smaller-k in
    let f = c.on_lent in
    evaluated_as c.args.program.now c.args.kinds.now c.args.values.now c.args.registers.now c.args.places.now c.requires.1 n.result k.result n.ensures k.ensures
    f.new.registers f.new.places f.result (f.auto.registers ∙ length-take-le _ _ (omega (arith, n.ensures))) (f.auto.places ∙ length-take-le _ _ (omega (arith, k.ensures))) f.ensures
