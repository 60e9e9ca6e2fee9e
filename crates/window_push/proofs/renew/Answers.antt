use Prim.Native.Nat.{◌+◌, ◌-◌, ◌*◌}
use native.Mathlib.Omega.{arith}
use mathlib.Core.Path.{◌≡◌, ap, ◌∙◌}
use mathlib.Core.List.{List, ◌++◌}
use lib.ListN.{length, take, drop, length-take, length-drop}
use lib.Seq.{take_all}
use lib.IntN.{ℤ}
use mir.Syntax.{w64}
use mir.Val.{to_z, of_z}
use Rattle.meaning_window.specs.Window as Window
use Rattle.meaning_window.specs.Window.{size_in_value, held_in, next_in, past_window}
use Rattle.theory_window.specs.Ring as Ring
use Rattle.window_cells.specs.Signed.{back}
use Rattle.window_found.specs.Checks.{new_leaders}
use Rattle.window_push.specs.Parts.{stored}
use Rattle.window_push.specs.Leading.{few_leaders}
use Rattle.window_push.proofs.Renewing.{renewed}
use borrow.Author.Rules.{rules}
use Rattle.window_push.proofs.renew.Goals as goal

pub returns : goal.returns
returns c =
    let s = c in
    let b = s.args.buffer.now in
    let f = s.args.found in
    let p = s.requires in
    let n = f.size in
    let cells = s.args.leaders.now in
    let size : n ≡ size_in_value b = ap (λ x. x.size) p.known.found in
    let held : f.held ≡ held_in b = ap (λ x. x.held) p.known.found in
    let next : f.next ≡ next_in b = ap (λ x. x.next) p.known.found in
    let from : f.from ≡ past_window - length (new_leaders b (size_in_value b) s.args.value) = ap (λ x. x.from) p.known.found in
    let v : to_z w64 (of_z w64 s.args.value) ≡ s.args.value = back s.args.value s.ranges.value in
    let t : to_z w64 (of_z w64 f.sum) ≡ f.sum = search rules in
    let x = c.store in
    let y : List ℤ = x.new.buffer in
    let g = c.grown in
    let a = c.after in
    let h : g.result ≡ Ring.grown (size_in_value b) (held_in b) = g.ensures.0 ∙ (λ i. Ring.grown (size i) (held i)) in
    let k : a.result ≡ Window.after (size_in_value b) (next_in b) = a.ensures.0 ∙ (λ i. Window.after (size i) (next i)) in
    let e : y ≡ stored b (Ring.grown (size_in_value b) (held_in b)) (Window.after (size_in_value b) (next_in b)) f.sum (past_window - f.from) (next_in b) s.args.value = x.ensures ∙ (λ i. stored b (h i) (k i) (t i) (past_window - f.from) (next i) (v i)) in
    let l : length y ≡ length b = search rules in
    let m : length (take (5 + 2 * n - (5 + n)) (drop (5 + n) y)) ≡ size_in_value b = omega (arith, length-take (5 + 2 * n - (5 + n)) (drop (5 + n) y), length-drop (5 + n) y, p.long) in
    let j : 5 + 2 * n - (5 + n) ≡ size_in_value b = omega arith in
    let new : take (length cells - f.from) (drop f.from cells) ≡ new_leaders b (size_in_value b) s.args.value =
    take_all (length cells - f.from) (drop f.from cells) (omega (arith, length-drop f.from cells)) ∙ (ap (λ i. drop i cells) from ∙ p.known.leaders.tail) in
    let r : past_window - f.from ≡ length (new_leaders b (size_in_value b) s.args.value) = omega (arith, few_leaders b p.known.kept s.args.value, p.most) in
    ap (λ (ys : List ℤ). take (5 + n) y ++ (ys ++ drop (5 + 2 * n - (5 + n)) (drop (5 + n) y))) c.lay.ensures
    ∙ renewed b p.known.kept s.args.value _ (past_window - f.from) f.sum y new r (ap (λ x. x.sum) p.known.found) e n _ _ size m j
