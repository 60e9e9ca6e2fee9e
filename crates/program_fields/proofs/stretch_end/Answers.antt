use native.Mathlib.Omega.{arith}
use Rattle.program_words.specs.Laws as L
use Rattle.program_fields.proofs.stretch_end.Goals as goal

pub returns-then-p-count : goal.returns-then-p-count
returns-then-p-count c = L.end_next _ _ _ _ _ (omega arith) c.word_or_zero.ensures

pub returns : goal.returns
returns c = L.end_last _ _ _ _ (omega arith)
