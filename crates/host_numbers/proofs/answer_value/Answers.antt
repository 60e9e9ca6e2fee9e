use mir.Syntax.{w64}
use mir.Val.{to_z, of_z}
use mathlib.Core.Path.{◌≡◌, sym, ap, ◌∙◌}
use Rattle.records.specs.Records.{answer_is}
use Rattle.host_numbers.specs.Lent.{answer_value}
use borrow.Author.Rules.{rules}
use Rattle.host_numbers.proofs.answer_value.Goals as goal

pub returns-in-Value : goal.returns-in-Value
returns-in-Value c =
    let t : to_z w64 (of_z w64 c.in-Value.v) ≡ c.in-Value.v = search rules in
    t ∙ sym (ap (λ z. answer_value (answer_is z)) c.in-Value.is)
