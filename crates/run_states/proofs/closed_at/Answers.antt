use mathlib.Core.Path.{ap, ◌∙◌}
use Rattle.records.specs.declared.Status.TheVariants.{Closed}
use Rattle.records.specs.States.{with_status}
use Rattle.run_states.proofs.closed_at.Goals as goal

pub returns : goal.returns
returns c = c.closed.ensures ∙ ap (with_status Closed) c.open_at.ensures
