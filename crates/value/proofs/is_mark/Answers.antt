use Rattle.std.proofs.Common.{ap, ◌∙◌, to_z-of_z}
use Rattle.meaning.specs.Calls.{is_mark}
use Rattle.value.proofs.is_mark.Goals as goal

pub returns : goal.returns
returns c = c.in_bounds.ensures ∙ ap is_mark (to_z-of_z c.ranges.v)
