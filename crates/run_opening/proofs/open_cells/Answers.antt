use native.Mathlib.Omega.{arith}
use mathlib.Core.Path.{sym}
use lib.ListN.{length-take}
use lib.Seq.{length-take-le}
use Rattle.records.specs.Records.{handed_is}
use Rattle.meaning.specs.Calls.{open_of}
use Rattle.run_cells.specs.Cutting.{open_cut, made_whole}
use Rattle.run_opening.proofs.open_cells.Goals as goal

pub slice_bounds-open_lent-end-2 : goal.slice_bounds-open_lent-end-2
slice_bounds-open_lent-end-2 c = sym (length-take-le _ _ (omega (arith, c.smaller-n.ensures)))

pub slice_bounds-open_lent-end-4 : goal.slice_bounds-open_lent-end-4
slice_bounds-open_lent-end-4 c = sym (length-take-le _ _ (omega (arith, c.smaller-k.ensures)))

pub open_lent-requires : goal.open_lent-requires
open_lent-requires c =
    let smaller2 = c.smaller-k in
    let smaller = c.smaller-n in
    let s = c.before.before.before.before.before.before.before in
    (omega (arith, length-take smaller.result s.args.registers.now, smaller.ensures), omega (arith, length-take smaller2.result s.args.places.now, smaller2.ensures), s.requires)

pub returns : goal.returns
returns c =
    let open_lent = c.open_lent in
    let smaller2 = c.smaller-k in
    let smaller = c.smaller-n in
    let start = c.before.before.before.before.before.before.before.before.before.before.before in
    let registers = start.args.registers.now in
    let places = start.args.places.now in
    λ g s.
    made_whole (open_of g) registers places smaller.result smaller2.result smaller.ensures smaller2.ensures (handed_is open_lent.result open_lent.new.registers open_lent.new.places) (open_lent.ensures g s) (open_cut g registers places)
