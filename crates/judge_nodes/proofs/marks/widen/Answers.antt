use Rattle.std.proofs.Common.{◌≡◌, ap, ◌∙◌, rules, SFits, to_z-of_z}
use Rattle.std.specs.Int.{w64}
use Rattle.meaning.specs.Value.{in_range}
use Rattle.theory_base.specs.Members.{T→true}
use Rattle.theory_base.specs.Feeds.{four_ranged, four_of}
use Rattle.judge_nodes.proofs.marks.widen.Goals as goal

pub returns : goal.returns
returns c =
    let e : c.from.result ≡ c.args.v = search rules in
    let f : SFits w64 c.from.result = search rules in
    let g = to_z-of_z f ∙ e in
    (g, ap in_range g ∙ T→true (in_range c.args.v) (four_ranged c.args.v (four_of c.args.v c.ranges.v)))
