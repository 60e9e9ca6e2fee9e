use Prim.Native.Nat.{◌+◌}
use native.Mathlib.Omega.{arith}
use mathlib.Core.Path.{◌≡◌}
use lib.ListN.{set}
use lib.IntN.{pos}
use mir.Syntax.{w64}
use mir.Val.{to_z, of_z}
use Rattle.window_cells.specs.Signed.{back}
use lib.Seq.{lt-length-set}
use Rattle.window_push.proofs.store.Goals as goal

pub bounds-buffer-2 : goal.bounds-buffer-2
bounds-buffer-2 c = lt-length-set c.args.buffer.now 1 (to_z w64 c.args.held) (omega arith)

pub bounds-buffer-3 : goal.bounds-buffer-3
bounds-buffer-3 c = lt-length-set (set c.args.buffer.now 1 (to_z w64 c.args.held)) 2 (to_z w64 c.args.next) (lt-length-set c.args.buffer.now 1 (to_z w64 c.args.held) (omega arith))

pub bounds-buffer-4 : goal.bounds-buffer-4
bounds-buffer-4 c =
    lt-length-set (set (set c.args.buffer.now 1 (to_z w64 c.args.held)) 2 (to_z w64 c.args.next)) 3 (to_z w64 (of_z w64 c.args.sum))
    (lt-length-set (set c.args.buffer.now 1 (to_z w64 c.args.held)) 2 (to_z w64 c.args.next) (lt-length-set c.args.buffer.now 1 (to_z w64 c.args.held) (omega arith)))

pub returns : goal.returns
returns c =
    let a = c.args in
    let e1 : to_z w64 a.held ≡ pos a.held = back (pos a.held) (record { sfits = omega arith }) in
    let e2 : to_z w64 a.next ≡ pos a.next = back (pos a.next) (record { sfits = omega arith }) in
    let e3 : to_z w64 (of_z w64 a.sum) ≡ a.sum = back a.sum c.ranges.sum in
    let e4 : to_z w64 a.count ≡ pos a.count = back (pos a.count) (record { sfits = omega arith }) in
    let e5 : to_z w64 (of_z w64 a.value) ≡ a.value = back a.value c.ranges.value in
    (λ i. set (set (set (set (set a.buffer.now 1 (e1 i)) 2 (e2 i)) 3 (e3 i)) 4 (e4 i)) (5 + a.slot) (e5 i))
