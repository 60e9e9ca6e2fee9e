use Prim.Native.Nat.{◌+◌, ◌*◌}
use native.Mathlib.Omega.{arith}
use mathlib.Core.Path.{◌≡◌, refl, sym, ap, ◌∙◌}
use lib.ListN.{length, take, length-take}
use lib.IntN.{pos}
use borrow.Author.Rules.{rules}
use mir.Syntax.{w64}
use mir.Val.{to_z}
use borrow.Author.Tests.{le-leb, lt-leb}
use Rattle.meaning_window.specs.Window.{zeros, window_limit}
use Rattle.window_cells.specs.Signed.{back}
use Rattle.theory_window.specs.Cases.{opens_not}
use Rattle.window.proofs.Calls.{opens_cleared}
use Rattle.window.proofs.window_open.Goals.{then-size-lt1-via-then-size-lt1, then-size-lt1-via-else-size-lt1+then-size}
use Rattle.window.proofs.window_open.Goals as goal

pub returns-then-size-lt1 : goal.returns-then-size-lt1
returns-then-size-lt1 c =
    let s = c in
    sym (opens_not s.args.size s.args.buffer.now (elim c.then-size-lt1.branch [
      | then-size-lt1-via-then-size-lt1 w ↦ rw (lt-leb 1 s.args.size (omega arith)) refl
      | then-size-lt1-via-else-size-lt1+then-size w ↦ rw (le-leb 1 s.args.size (omega arith), lt-leb s.args.size window_limit (omega arith)) refl
    ]))

pub returns-then-buffer-length : goal.returns-then-buffer-length
returns-then-buffer-length c = let s = c in sym (opens_not s.args.size s.args.buffer.now (rw (le-leb 1 s.args.size (omega arith), le-leb s.args.size window_limit (omega arith), lt-leb (5 + 2 * s.args.size) (length s.args.buffer.now) (omega arith)) refl))

pub returns : goal.returns
returns c =
    let s = c in
    let n = s.args.size in
    let b = s.args.buffer.now in
    let e : to_z w64 n ≡ pos n = back (pos n) (record { sfits = omega arith }) in
    let m : length (take (5 + 2 * n) b) ≡ 5 + 2 * n = omega (arith, length-take (5 + 2 * n) b) in
    opens_cleared n b (rw (le-leb 1 n (omega arith), le-leb n window_limit (omega arith), le-leb (5 + 2 * n) (length b) (omega arith)) refl) c.fill.new.self (let z : c.fill.new.self ≡ zeros (length (take (5 + 2 * n) b)) = search rules in z ∙ ap zeros m) (to_z w64 n) e
