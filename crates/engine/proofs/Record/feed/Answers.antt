use mathlib.Core.Path.{ap, ◌∙◌}
use Rattle.engine.specs.Records.{effect_is}
use Rattle.engine.proofs.Record.feed.Goals as goal

pub returns : goal.returns
returns c =
    let p = c.perform in
    ap (λ z. effect_is z p.new.registers p.new.places p.new.program) c.hand_back.ensures ∙ p.ensures
