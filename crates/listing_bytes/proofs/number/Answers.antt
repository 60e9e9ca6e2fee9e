use Rattle.listing_bytes.specs.Decimal.{decimal_few}
use native.Mathlib.Omega.{arith}
use Rattle.listing_bytes.proofs.number.Goals as goal

pub digits-requires : goal.digits-requires
digits-requires c = omega (arith, decimal_few c.args.n (omega arith))

pub returns : goal.returns
returns c = (c.digits.ensures, omega (arith, decimal_few c.args.n (omega arith), c.digits.ensures.behind))
