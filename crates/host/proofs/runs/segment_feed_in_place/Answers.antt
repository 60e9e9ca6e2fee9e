use mathlib.Core.Path.{ap, ◌∙◌}
use Rattle.meaning.specs.Program.{program_of}
use Rattle.meaning.specs.PublicCalls.{performs, feed, stacks_of}
use Rattle.host_numbers.specs.Lent.{passed_on}
use Rattle.host.proofs.runs.segment_feed_in_place.Goals as goal

pub returns : goal.returns
returns c =
    let a = c.args in
    let e = ap (λ z. performs program_of a.table.now a.program.now z (stacks_of a.registers.now a.places.now) (feed a.kinds.now a.values.now)) c.brought-brought.ensures in
    passed_on c.fed-called.result _ _ _ _ (c.fed-called.ensures ∙ e) _ _ _ c.pass_on.ensures
