use Rattle.listing_bytes.specs.Decimal.{decimal}
use Rattle.listing_lines.specs.Line.{prefix_text, add_line}
use Rattle.listing_bytes.specs.Written.{◌then◌}
use native.Mathlib.Omega.{arith}
use Rattle.listing_lines.proofs.add_line.Goals as goal

pub returns : goal.returns
unfolding add_line prefix_text decimal
returns c = (c.prefix-p.ensures.0 then c.spaced_number-q.ensures.0 then c.put.ensures, omega (arith, c.put.ensures.behind))
