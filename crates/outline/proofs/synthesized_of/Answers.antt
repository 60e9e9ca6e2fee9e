use Rattle.std.proofs.Common.{Bool, true, false, ◌≡◌, refl, ◌∙◌}
use mir.Val.{bool_byte}
use Rattle.meaning.specs.Grammar.{attribute_if}
use Rattle.outline.specs.Counts.{synthesized_terminal, synthesized_nonterminal}
use Rattle.outline.proofs.synthesized_of.Goals as goal

counted : (b : Bool) → bool_byte b ≡ attribute_if b
counted true = refl
counted false = refl

pub returns-then-symbol-lt128 : goal.returns-then-symbol-lt128
returns-then-symbol-lt128 c = c.from.ensures ∙ (counted c.has.result ∙ synthesized_terminal _ _ _ c.if-symbol-lt128.true c.has.ensures refl)

pub returns-else-symbol-lt128 : goal.returns-else-symbol-lt128
returns-else-symbol-lt128 c = synthesized_nonterminal _ _ _ _ c.if-symbol-lt128.false c.count_of.ensures
