-- The meaning of the code's answers.
use Rattle.std.specs.Prelude.{List, ℤ}
use Rattle.meaning_window.specs.Window as Window
use Rattle.meaning_window.specs.Window.{totals, empty, turned_back, Outcome, outcome}
use Rattle.window.specs.declared.WindowAnswer.{WindowAnswer}
use Rattle.window.specs.declared.WindowAnswer.TheVariants.{Totals, Empty, Refused}

abbrev pub answer_is : WindowAnswer → Window.WindowAnswer
answer_is (Totals sum top) = totals sum top
answer_is Empty = empty
answer_is Refused = turned_back

-- what a call answers, and the buffer that it leaves
abbrev pub outcome_is : WindowAnswer → List ℤ → Outcome
outcome_is a b = outcome (answer_is a) b
