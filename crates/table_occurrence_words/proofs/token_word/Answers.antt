use mathlib.Core.Path.{sym, ◌∙◌}
use native.Mathlib.Omega.{arith}
use Rattle.table_occurrence_words.proofs.Placing.{token_yes, token_no}
use Rattle.table_occurrence_words.proofs.token_word.Goals as goal

pub returns-then-has : goal.returns-then-has
returns-then-has c = λ k inherited synthesized l. token_yes k inherited synthesized _ _ (omega arith) l (sym c.has.ensures ∙ c.if-has.true)

pub returns-else-has : goal.returns-else-has
returns-else-has c = λ k inherited synthesized l. token_no k inherited synthesized _ _ (omega arith) l (sym c.has.ensures ∙ c.if-has.false)
