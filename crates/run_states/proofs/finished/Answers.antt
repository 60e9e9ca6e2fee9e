use borrow.Author.Rules.{sfits_of}
use mathlib.Core.Path.{sym, ap, ap₂, ◌∙◌}
use lib.ListN.{get_or}
use Rattle.value.proofs.Bits.{held}
use Rattle.records.specs.declared.Answer.TheVariants.{Value}
use Rattle.run_states.specs.Leaving.{refused_as, finished_by}
use Rattle.run_states.proofs.finished.Goals as goal

pub read-requires : goal.read-requires
read-requires g c = c.requires.some c.in-Ok.run' c.in-Ok.is

pub returns-in-Ok : goal.returns-in-Ok
returns-in-Ok g c =
    let ended = c.in-Ok in
    ap₂ (λ z w. record { state = z; answer = Value w ended.run'.moves }) c.closed_at.ensures (held (sfits_of c.read.type_inv) c.read.ensures)
    ∙ ap (finished_by g.F.Failing.failed_of (get_or c.args.program.now 5 0) c.args.registers.now) (sym ended.is)

pub returns-in-Err : goal.returns-in-Err
returns-in-Err g c = c.refused.ensures ∙ ap refused_as c.failed.ensures ∙ ap (finished_by g.F.Failing.failed_of (get_or c.args.program.now 5 0) c.args.registers.now) (sym c.in-Err.is)
