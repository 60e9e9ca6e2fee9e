use mathlib.Core.Path.{sym, ap, ◌∙◌}
use Rattle.meaning.specs.Sets.{◌∪◌}
use Rattle.token_set.specs.SetBits.{set_of}
use Rattle.preview.specs.collect.Collecting.{grown_by}
use Rattle.preview.proofs.collect.grown.Goals as goal

-- src/collect.rt:45:9
pub returns-then-passed : goal.returns-then-passed
returns-then-passed c =
    let a = c.args in
    c.union.ensures.set ∙ (ap (λ z. set_of a.set.0 ∪ z) c.of_token.ensures ∙ ap (grown_by (set_of a.set.0) a.token) (sym c.if-passed.true))

-- src/collect.rt:41:1
pub returns-else-passed : goal.returns-else-passed
returns-else-passed c = let a = c.args in ap (grown_by (set_of a.set.0) a.token) (sym c.if-passed.false)
