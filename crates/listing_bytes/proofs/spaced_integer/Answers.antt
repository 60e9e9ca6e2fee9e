use Rattle.listing_bytes.specs.Written.{◌then◌}
use native.Mathlib.Omega.{arith}
use Rattle.listing_bytes.proofs.spaced_integer.Goals as goal

pub returns : goal.returns
returns c = (c.put-p.ensures then c.integer.ensures.0, omega (arith, c.put-p.ensures.behind))
