use native.Mathlib.Omega.{arith}
use Prim.Native.Nat.{ℕ, ◌+◌, ◌-◌, ◌*◌}
use mathlib.Core.Path.{ap}
use lib.ListN.{take, drop}
use Rattle.outline.proofs.row_of.Goals as goal

pub returns : goal.returns
returns c =
    let p = c.args.p in
    ap (λ (n : ℕ). take n (drop (p * 16) c.args.rows.now)) {x = p * 16 + 16 - p * 16} {y = 16} (omega arith)
