use mir.Syntax.{w64}
use mir.Val.{to_z, of_z}
use mathlib.Core.Path.{◌≡◌, ap, ◌∙◌}
use mathlib.Core.List.{List}
use lib.IntN.{ℤ}
use Rattle.meaning_window.specs.Window.{after, size_in_value, next_in, values_with, written}
use Rattle.window_cells.specs.Signed.{back}
use Rattle.window.proofs.Calls.{pushed}
use borrow.Author.Rules.{rules}
use Rattle.window.proofs.push.Goals as goal

pub returns : goal.returns
returns c =
    let s = c in
    let v = s.args.value in
    let b = s.args.buffer.now in
    let f = s.args.found in
    let y : List ℤ = c.renew.new.buffer in
    let e : y ≡ written (size_in_value b) (after (size_in_value b) (next_in b)) (values_with v b) b = c.renew.ensures ∙ ap (λ x. written (size_in_value b) (after (size_in_value b) (next_in b)) (values_with x b) b) (back v s.ranges.value) in
    let t : to_z w64 (of_z w64 f.sum) ≡ f.sum = search rules in
    let m : to_z w64 (of_z w64 f.top) ≡ f.top = search rules in
    let w = s.requires.0.known in
    pushed b w.kept v s.requires.1 y e _ _ (t ∙ ap (λ x. x.sum) w.found) (m ∙ ap (λ x. x.top) w.found)
