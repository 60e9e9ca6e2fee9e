use native.Mathlib.Omega.{arith}
use lib.ListN.{length}
use Rattle.theory_ranking.specs.Entries.{entries_of}
use Rattle.theory_ranking.specs.Report.{counted_distinct}
use Rattle.rank_suits.specs.Suiting.{suits}
use Rattle.rank.specs.Listing.{uneven_as, listed_as}
use Rattle.rank.proofs.rank_under.Goals as goal

pub returns-then-kinds-values : goal.returns-then-kinds-values
returns-then-kinds-values c = uneven_as c.args.program.now c.args.lengths.now c.args.kinds.now c.args.values.now c.args.list.now c.args.registers.now c.args.places.now c.if-kinds-values.true

pub evaluate_all-requires : goal.evaluate_all-requires
evaluate_all-requires c = let k = suits c.args.lengths.now c.args.kinds.now c.args.list.now c.requires.1 in (c.requires.0, c.if-kinds-values.false, k.summed, k.room)

pub report-requires : goal.report-requires
report-requires c =
    let k = suits c.args.lengths.now c.args.kinds.now c.args.list.now c.requires.1 in
    let e = c.evaluate_all in
    (k.few, omega (arith, k.room, e.auto.list), e.ensures.ranged, counted_distinct 0 (entries_of (length c.args.lengths.now) e.new.list) e.ensures.counted)

pub returns : goal.returns
returns c =
    let k = suits c.args.lengths.now c.args.kinds.now c.args.list.now c.requires.1 in
    let e = c.evaluate_all in
    let r = c.report in
    let if1 = c.if-kinds-values in
    listed_as c.args.program.now c.args.lengths.now c.args.kinds.now c.args.values.now c.args.list.now c.args.registers.now c.args.places.now if1.false
    k.room e.new.list e.new.registers e.new.places e.ensures r.new.list r.result (omega (arith, k.room, e.auto.list)) r.ensures
