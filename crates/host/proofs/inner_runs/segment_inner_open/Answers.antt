use mathlib.Core.Path.{ap, ◌∙◌}
use Rattle.meaning.specs.Program.{program_of}
use Rattle.meaning.specs.PublicCalls.{stacks_of}
use Rattle.meaning_inner.specs.Inner.{inner_opens}
use Rattle.host.specs.Both.{both_passed_on}
use Rattle.host.proofs.inner_runs.segment_inner_open.Goals as goal

pub returns : goal.returns
returns c =
    let a = c.args in
    let f = c.open_inner-opened in
    let e = ap (λ z. inner_opens program_of a.outer_table.now a.inner_table.now a.program.now z (stacks_of a.registers.now a.places.now)) c.brought.ensures in
    both_passed_on f.result _ _ _ _ (f.ensures ∙ e) _ _ _ _ c.pass_on.ensures
