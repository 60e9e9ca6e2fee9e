use mir.Syntax.{w64}
use mir.Val.{to_z, of_z}
use mathlib.Core.Path.{◌≡◌, refl, sym, ◌∙◌}
use lib.IntN.{pos}
use Rattle.theory_window.specs.Parts.{answer_of}
use Rattle.theory_window.specs.Cases.{state_not, state_met}
use Rattle.theory_window.specs.FormByParts.{passed, answer_read}
use Rattle.window_found.specs.Checks.{checked_kept, checked_wrong}
use borrow.Author.Rules.{rules}
use Rattle.window.proofs.window_state.Goals as goal

pub check-requires : goal.check-requires
check-requires c = (refl, refl)

pub returns-in_default : goal.returns-in_default
returns-in_default c =
    let b = c.args.buffer.now in
    sym (state_not b (checked_wrong b (pos 0) c.check.ensures c.in_default.is))

pub returns : goal.returns
returns c =
    let b = c.args.buffer.now in
    let f = c.in-Some.found in
    let w = checked_kept b (pos 0) c.check.ensures c.in-Some.is in
    let t : to_z w64 (of_z w64 f.total) ≡ f.total = search rules in
    let l : to_z w64 (of_z w64 f.largest) ≡ f.largest = search rules in
    c.standing.ensures
    ∙ ((λ i. answer_of f.held (t i) (l i)) ∙ ((λ i. answer_of (w.found i).held (w.found i).total (w.found i).largest) ∙ (answer_read b (passed b w.kept) ∙ sym (state_met b w.kept))))
