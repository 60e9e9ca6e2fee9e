use Rattle.std.proofs.Common.{ap, ◌∙◌, to_z-of_z}
use Rattle.meaning.specs.Value.{in_range}
use Rattle.value.proofs.in_range.Goals as goal

pub returns : goal.returns
returns c = c.in_bounds.ensures ∙ ap in_range (to_z-of_z c.ranges.v)
