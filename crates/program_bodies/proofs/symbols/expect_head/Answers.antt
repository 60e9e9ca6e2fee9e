use native.Mathlib.Omega.{arith}
use mathlib.Core.Path.{◌∙◌}
use Rattle.program_body_words.specs.Laws as L
use Rattle.program_bodies.proofs.symbols.expect_head.Goals as goal

pub returns-then-symbol-lt128 : goal.returns-then-symbol-lt128
returns-then-symbol-lt128 c = c.head.ensures ∙ L.head_terminal _ (omega arith)

pub returns-else-symbol-lt128 : goal.returns-else-symbol-lt128
returns-else-symbol-lt128 c = c.head-else-symbol-lt128.ensures ∙ L.head_nonterminal _ (omega arith)
