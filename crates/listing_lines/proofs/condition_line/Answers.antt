use Rattle.listing_bytes.specs.Decimal.{decimal}
use Rattle.listing_lines.specs.Line.{condition_line, condition_as, prefix_text}
use Rattle.listing_bytes.specs.Written.{◌then◌}
use native.Mathlib.Omega.{arith}
use Rattle.listing_lines.proofs.condition_line.Goals as goal

pub returns : goal.returns
unfolding condition_line condition_as prefix_text decimal
returns c = (c.prefix-p.ensures.0 then c.condition-q.ensures.0 then c.put.ensures, omega (arith, c.put.ensures.behind))
