use native.Mathlib.Omega.{arith}
use mathlib.Core.Path.{sym}
use lib.ListN.{length-take}
use lib.Seq.{length-take-le}
use Rattle.records.specs.Numbered.{number_or_zero}
use Rattle.records.specs.Records.{state_is}
use Rattle.run_lent.specs.Judging.{number_cut}
use Rattle.run_lent.proofs.judge_cells.Goals as goal

pub slice_bounds-turned_back-end : goal.slice_bounds-turned_back-end
slice_bounds-turned_back-end t c = sym (length-take-le _ _ (omega (arith, c.smaller-n.ensures)))

pub slice_bounds-turned_back-end-2 : goal.slice_bounds-turned_back-end-2
slice_bounds-turned_back-end-2 t c = sym (length-take-le _ _ (omega (arith, c.smaller-k.ensures)))

pub turned_back-requires : goal.turned_back-requires
turned_back-requires t c =
    (omega (arith, length-take c.smaller-n.result c.args.registers.now, c.smaller-n.ensures), omega (arith, length-take c.smaller-k.result c.args.places.now, c.smaller-k.ensures), c.requires)

pub returns : goal.returns
returns t c =
    let a = c.args in
    let f = t.R.Numbered.number_of in
    λ g s. number_cut (f a.other) g (state_is a.brought) a.registers.now a.places.now c.smaller-n.result c.smaller-k.result c.smaller-n.ensures c.smaller-k.ensures (number_or_zero f c.turned_back.result) (c.turned_back.ensures g s)
