use mathlib.Core.Path.{ap, ◌∙◌}
use Rattle.inner.specs.Records.{inner_effect_is}
use Rattle.inner.proofs.finish_inner.Goals as goal

pub returns : goal.returns
returns c =
    let p = c.perform in
    ap (λ z. inner_effect_is z p.new.registers p.new.places p.new.program) c.hand_back.ensures ∙ p.ensures
