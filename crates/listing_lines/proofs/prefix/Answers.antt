use Rattle.listing_lines.specs.Line.{prefix_text}
use Rattle.listing_bytes.specs.Written.{◌then◌}
use native.Mathlib.Omega.{arith}
use Rattle.listing_lines.proofs.prefix.Goals as goal

pub returns : goal.returns
unfolding prefix_text
returns c =
    let first = c.number-p.ensures.0 in
    let space = c.put-q.ensures in
    let letter = c.put-s.ensures in
    let second = c.number.ensures.0 in
    (first then (space then (letter then second)), omega (arith, space.behind, letter.behind))
