use borrow.Author.Rules.{rules}
use native.Mathlib.Omega.{arith}
use lib.ListN.{length, length-take}
use Rattle.window_push.proofs.Renewing.{laid}
use Rattle.window_push.proofs.lay.Goals as goal

pub slice_bounds-put-end-2 : goal.slice_bounds-put-end-2
slice_bounds-put-end-2 c = omega (arith, length-take (length c.args.leaders.now) c.args.area.now)

pub put-requires : goal.put-requires
put-requires c = omega (arith, length-take (length c.args.leaders.now) c.args.area.now)

pub returns : goal.returns
returns c =
    let s = c in
    laid s.args.area.now s.args.leaders.now c.put.new.cells c.fill.new.self s.requires c.put.ensures (search rules)
