use Rattle.listing_text.specs.Steps.{lines_first}
use Rattle.listing_text.specs.Cursors.{lines_left}
use mathlib.Core.Path.{ap, ◌∙◌}
use Rattle.listing_text.proofs.first.Goals as goal

pub returns : goal.returns
returns c = λ g w b. ap (lines_left c.args.program.now) c.start.ensures ∙ lines_first w b
