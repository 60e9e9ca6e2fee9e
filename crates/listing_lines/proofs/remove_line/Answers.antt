use Rattle.listing_bytes.specs.Decimal.{decimal}
use Rattle.listing_lines.specs.Line.{remove_line}
use Rattle.listing_bytes.specs.Written.{◌then◌}
use native.Mathlib.Omega.{arith}
use Rattle.listing_lines.proofs.remove_line.Goals as goal

pub returns : goal.returns
unfolding remove_line decimal
returns c =
    let number = c.number-p.ensures.0 in
    let copied = c.copy-q.ensures in
    let spaced = c.spaced_number-s.ensures.0 in
    let ended = c.put.ensures in
    (number then copied then spaced then ended, omega (arith, copied.behind, ended.behind))
