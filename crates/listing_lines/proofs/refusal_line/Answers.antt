use Prim.Native.Nat.{◌≤◌}
use Rattle.listing_bytes.specs.Decimal.{decimal}
use Rattle.listing_bytes.specs.Written.{◌then◌, wrote_first}
use native.Mathlib.Omega.{arith}
use Rattle.listing_lines.proofs.refusal_line.Goals as goal

pub returns : goal.returns
unfolding decimal
returns c =
    let w = c.two_numbers-p.ensures.0 then c.put.ensures in
    let l : c.put.result ≤ 64 = omega (arith, c.put.ensures.behind) in
    (l, omega (arith, w.behind), wrote_first (omega arith) w)
