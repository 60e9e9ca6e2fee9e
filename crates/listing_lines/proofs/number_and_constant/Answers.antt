use Rattle.listing_bytes.specs.Written.{◌then◌}
use native.Mathlib.Omega.{arith}
use Rattle.listing_lines.proofs.number_and_constant.Goals as goal

pub returns : goal.returns
returns c =
    let copied = c.copy-p.ensures in
    (copied then c.spaced_number-q.ensures.0 then c.spaced_integer.ensures.0, omega (arith, copied.behind))
