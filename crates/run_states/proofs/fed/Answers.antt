use mathlib.Core.Path.{sym, ap, ◌∙◌}
use Rattle.records.specs.declared.Answer.TheVariants.{More}
use Rattle.run_states.specs.Leaving.{refused_as, fed_by}
use Rattle.run_states.proofs.fed.Goals as goal

pub returns-in-Ok : goal.returns-in-Ok
returns-in-Ok g c = ap (λ z. record { state = z; answer = More c.in-Ok.run'.moves }) c.open_at.ensures ∙ ap (fed_by g.F.Failing.failed_of) (sym c.in-Ok.is)

pub returns-in-Err : goal.returns-in-Err
returns-in-Err g c = c.refused.ensures ∙ ap refused_as c.failed.ensures ∙ ap (fed_by g.F.Failing.failed_of) (sym c.in-Err.is)
