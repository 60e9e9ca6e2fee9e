use Rattle.std.proofs.Common.{arith, rules, pos, get_or, ℤ, SFits}
use Rattle.std.specs.Int.{w32}
use Rattle.theory_base.specs.Feeds.{four_of}
use Rattle.sheet.specs.Calling.{four_none, four_more, four_all}
use Rattle.sheet.proofs.all_values.Goals as goal

pub loop-value-init : goal.loop-value-init
loop-value-init c = four_none c.args.values.now

pub loop-value-preserved : goal.loop-value-preserved
loop-value-preserved c =
    let i = c.loop-value.value-index in
    let v : ℤ = get_or c.args.values.now i (pos 0) in
    let f : SFits w32 v = search rules in
    four_more c.args.values.now i c.loop-value.invariant (four_of v f)

pub returns : goal.returns
returns c = four_all c.args.values.now c.loop-value.value-index c.loop-value.invariant (omega arith)
