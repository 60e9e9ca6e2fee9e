use native.Mathlib.Omega.{arith}
use mathlib.Core.Path.{◌≡◌, sym, ap, ◌∙◌}
use mathlib.Core.Bool.{true, false, ◌&&◌}
use lib.IntN.{pos}
use mir.Facts.{to_z-of_z}
use Rattle.meaning_window.specs.Window.{window_limit}
use Rattle.window_cells.proofs.Laws.{small_in, small_out}
use lib.Signed.{le_z}
use Rattle.window_cells.proofs.small.Goals.{Then-in_bounds}
use Rattle.window_cells.proofs.small.Goals as goal

tested : (c : Then-in_bounds) → (le_z (pos 0) c.args.v && le_z c.args.v (pos window_limit)) ≡ true
tested c =
    let s = c.before.before in
    sym (c.in_bounds.ensures ∙ ap (λ z. le_z (pos 0) z && le_z z (pos window_limit)) (to_z-of_z s.ranges.v)) ∙ c.if-in_bounds.true

pub overflow_cast-result : goal.overflow_cast-result
overflow_cast-result c =
    let s = c.before.before in
    let v = s.args.v in
    let t = small_in v (tested c) in
    rw (to_z-of_z s.ranges.v) (t.0, record { fits = omega (arith, t.2) })

pub returns-then-in_bounds : goal.returns-then-in_bounds
returns-then-in_bounds c =
    let s = c.before.before in
    let t = small_in s.args.v (tested c) in
    rw (to_z-of_z s.ranges.v) (t.1, omega (arith, t.2))

pub returns-else-in_bounds : goal.returns-else-in_bounds
returns-else-in_bounds c =
    let s = c.before.before in
    let t : (le_z (pos 0) s.args.v && le_z s.args.v (pos window_limit)) ≡ false = sym (c.in_bounds.ensures ∙ ap (λ z. le_z (pos 0) z && le_z z (pos window_limit)) (to_z-of_z s.ranges.v)) ∙ c.if-in_bounds.false in
    (small_out s.args.v t, omega arith)
