use mathlib.Core.Path.{◌≡◌, sym, ap, ◌∙◌}
use mir.Syntax.{w64}
use mir.Val.{to_z, of_z}
use Rattle.meaning_window.specs.Window.{window_number}
use Rattle.window.specs.Answers.{answer_is}
use Rattle.host_answers.specs.windows.Windows.{total_of, largest_of, has_largest}
use borrow.Author.Rules.{rules}
use Rattle.host_answers.proofs.windows.hand_out.Goals as goal

pub returns-in-Totals : goal.returns-in-Totals
returns-in-Totals c =
    let e = c.in-Totals.is in
    let t : to_z w64 (of_z w64 c.in-Totals.sum) ≡ c.in-Totals.sum = search rules in
    let l : to_z w64 (of_z w64 c.in-Totals.top) ≡ c.in-Totals.top = search rules in
    (sym (ap (λ z. window_number (answer_is z)) e), t ∙ sym (ap (λ z. total_of (answer_is z)) e), l ∙ sym (ap (λ z. largest_of (answer_is z)) e), sym (ap (λ z. has_largest (answer_is z)) e))
