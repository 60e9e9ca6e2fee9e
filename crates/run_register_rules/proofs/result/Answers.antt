use mathlib.Core.Path.{sym, ◌∙◌}
use Rattle.run_register_rules.proofs.result.Goals as goal

pub direct-requires : goal.direct-requires
direct-requires c =
    let k = c.before in
    let s = k.before in
    (s.requires.0, s.requires.1, sym k.common_word.ensures ∙ c.if-common_word.true)
