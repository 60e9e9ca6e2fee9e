use mathlib.Core.Path.{ap₂, ◌∙◌}
use Rattle.meaning.specs.Program.{program_of}
use Rattle.meaning.specs.PublicCalls.{stacks_of, feed}
use Rattle.meaning_inner.specs.Inner as Inner
use Rattle.meaning_inner.specs.Inner.{inner_performs}
use Rattle.host.specs.Both.{both_passed_on}
use Rattle.host.proofs.inner_runs.segment_inner_feed.Goals as goal

pub returns : goal.returns
returns c =
    let a = c.args in
    let f = c.feed_inner-fed in
    let outer = c.brought.ensures in
    let inner = c.brought-2.ensures in
    let e = ap₂ (λ z y. inner_performs program_of a.table.now a.program.now z y (stacks_of a.registers.now a.places.now) (Inner.engine (feed a.kinds.now a.values.now))) outer inner in
    both_passed_on f.result _ _ _ _ (f.ensures ∙ e) _ _ _ _ c.pass_on.ensures
