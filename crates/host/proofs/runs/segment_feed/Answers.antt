use mathlib.Core.Path.{ap, ◌∙◌}
use Rattle.meaning.specs.Program.{program_of}
use Rattle.meaning.specs.PublicCalls.{performs, feed}
use Rattle.meaning.specs.PublicCalls.{stacks_of}
use Rattle.host_numbers.specs.Lent.{passed_on}
use Rattle.host.proofs.runs.segment_feed.Goals as goal

pub returns : goal.returns
returns c =
    let a = c.args in
    let e = ap (λ z. performs program_of a.table.now a.program.now z (stacks_of a.registers.now a.places.now) (feed a.kinds.now a.values.now)) c.brought.ensures in
    passed_on c.feed-called.result _ _ _ _ (c.feed-called.ensures ∙ e) _ _ _ c.pass_on.ensures
