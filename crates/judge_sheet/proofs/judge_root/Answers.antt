use borrow.Author.Rules.{sfits_of}
use Rattle.value.proofs.Bits.{held}
use Rattle.judge_sheet.proofs.Answers as A
use Rattle.judge_sheet.proofs.judge_root.Goals as goal

pub returns-then-ends-sheet : goal.returns-then-ends-sheet
returns-then-ends-sheet c = λ table rows inherited synthesized offsets start x t. A.sheet_longer x _ t _ _ c.in-Some.is c.if-ends-sheet.true

pub returns-then-ends-kinds : goal.returns-then-ends-kinds
returns-then-ends-kinds c = λ table rows inherited synthesized offsets start x t. A.tokens_longer x _ t _ _ c.in-Some.is c.if-ends-kinds.true

pub returns-in-None : goal.returns-in-None
returns-in-None c = λ table rows inherited synthesized offsets start x t. A.sheet_wrong x _ t c.in-None.is

pub returns-else-ends-kinds : goal.returns-else-ends-kinds
returns-else-ends-kinds c = λ table rows inherited synthesized offsets start x t.
    A.sheet_worth x _ t _ _ c.in-Some.is c.if-ends-sheet.false c.if-ends-kinds.false _ (held (sfits_of c.read_mark.type_inv) c.read_mark.ensures.0)
