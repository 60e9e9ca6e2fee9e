use mathlib.Core.Path.{refl}
use Rattle.table_fields.proofs.Symbols.{token_known, token_unknown}
use Rattle.table_occurrence_words.proofs.Placing.{token_other}
use Rattle.table_occurrence_words.proofs.find_token.Goals as goal

pub returns-then-sizes-symbol-clause-other : goal.returns-then-sizes-symbol-clause-other
returns-then-sizes-symbol-clause-other c = token_unknown _ _ _ c.requires c.if-sizes-symbol.true

pub returns-clause-found : goal.returns-clause-found
returns-clause-found c = (
  λ inherited synthesized.
      record {
        known = token_known _ _ _ c.requires c.if-sizes-symbol.false;
        bits = c.symbol_bit-bit.ensures;
        inputs = λ k l. c.token_word-inputs.ensures k inherited synthesized l;
        others = λ k l. token_other k inherited _ _ c.requires l;
      },
  refl,
)
