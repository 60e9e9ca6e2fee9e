use mathlib.Core.Path.{sym, ap, ◌∙◌}
use Rattle.token_set.specs.SetBits.{set_empty}
use Rattle.preview.specs.May.{may_is}
use Rattle.host.specs.may_numbers.Previewed.{tokens_in}
use Rattle.host.proofs.may_numbers.tokens_of.Goals as goal

pub returns-in-Tokens : goal.returns-in-Tokens
returns-in-Tokens c = sym (ap (λ z. tokens_in (may_is z)) c.in-Tokens.is)

pub returns-in-Turned : goal.returns-in-Turned
returns-in-Turned c = set_empty ∙ sym (ap (λ z. tokens_in (may_is z)) c.in-Turned.is)
