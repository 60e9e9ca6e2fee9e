use Rattle.listing_bytes.specs.Written.{◌then◌}
use native.Mathlib.Omega.{arith}
use Rattle.listing_bytes.proofs.spaced_number.Goals as goal

pub returns : goal.returns
returns c = (c.put-p.ensures then c.number.ensures.0, omega (arith, c.put-p.ensures.behind))
