use native.Mathlib.Omega.{arith}
use mathlib.Core.Path.{sym}
use lib.ListN.{length-take}
use lib.Seq.{length-take-le}
use Rattle.meaning.specs.PublicCalls.{call_of}
use Rattle.run_lent.specs.Performing.{call_is}
use Rattle.records.specs.Records.{state_is, handed_is}
use Rattle.run_lent.specs.Cutting.{call_cut}
use Rattle.run_cells.specs.Cutting.{made_whole}
use Rattle.run_lent.proofs.call_cells.Goals as goal

pub slice_bounds-call_lent-end-2 : goal.slice_bounds-call_lent-end-2
slice_bounds-call_lent-end-2 c = sym (length-take-le _ _ (omega (arith, c.smaller-n.ensures)))

pub slice_bounds-call_lent-end-4 : goal.slice_bounds-call_lent-end-4
slice_bounds-call_lent-end-4 c = sym (length-take-le _ _ (omega (arith, c.smaller-k.ensures)))

pub call_lent-requires : goal.call_lent-requires
call_lent-requires c =
    (omega (arith, length-take c.smaller-n.result c.args.registers.now, c.smaller-n.ensures), omega (arith, length-take c.smaller-k.result c.args.places.now, c.smaller-k.ensures), c.requires)

pub returns : goal.returns
returns c =
    let f = c.call_lent in
    let a = c.args in
    let vs = a.registers.now in
    let ps = a.places.now in
    let q = call_is a.call a.kinds.now a.values.now in
    λ g s. made_whole (λ m. call_of g (state_is a.brought) m q) vs ps c.smaller-n.result c.smaller-k.result c.smaller-n.ensures c.smaller-k.ensures (handed_is f.result f.new.registers f.new.places) (f.ensures g s) (call_cut g vs ps (state_is a.brought) q)
