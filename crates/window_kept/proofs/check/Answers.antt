use Rattle.std.proofs.Common.{arith, refl, ◌≡◌, ◌+◌, ◌*◌, le-leb, length, to_z, of_z, to_z-of_z}
use Rattle.std.proofs.lemmas.Bool.{lt-leb}
use Rattle.std.specs.Int.{w64}
use Rattle.meaning_window.specs.Window.{window_limit}
use Rattle.window_found.specs.Checking.{size_not, size_met}
use Rattle.window_kept.proofs.check.Goals.{then-size-lt1-via-then-size-lt1, then-size-lt1-via-else-size-lt1+then-size-gt-WINDOW, then-size-lt1-via-else-size-lt1+else-size-gt-WINDOW+then-buffer-size}
use Rattle.window_kept.proofs.check.Goals as goal

pub returns-then-size-lt1 : goal.returns-then-size-lt1
returns-then-size-lt1 c =
    let n = c.number_at-size in
    let b = c.args.buffer.now in
    size_not b _ _ n.result n.ensures.0 (elim c.then-size-lt1.branch [
      | then-size-lt1-via-then-size-lt1 w ↦ rw (lt-leb 1 n.result (omega arith)) refl
      | then-size-lt1-via-else-size-lt1+then-size-gt-WINDOW w ↦ rw (le-leb 1 n.result (omega arith), lt-leb n.result window_limit (omega arith)) refl
      | then-size-lt1-via-else-size-lt1+else-size-gt-WINDOW+then-buffer-size w ↦ rw (le-leb 1 n.result (omega arith), le-leb n.result window_limit (omega arith), lt-leb (5 + 2 * n.result) (length b) (omega arith)) refl
    ])

pub returns : goal.returns
returns c =
    let n = c.number_at-size in
    let b = c.args.buffer.now in
    let v : to_z w64 (of_z w64 c.args.value) ≡ c.args.value = to_z-of_z c.ranges.value in
    size_met b c.args.value _ n.result n.ensures.0 (rw (le-leb 1 n.result (omega arith), le-leb n.result window_limit (omega arith), le-leb (5 + 2 * n.result) (length b) (omega arith)) refl) (rw v at c.parts_kept.ensures)
