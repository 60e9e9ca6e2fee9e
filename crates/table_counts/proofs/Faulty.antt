-- No fault has the number 0.
use Rattle.std.proofs.Common.{◌≡◌}
use Rattle.refusals.specs.declared.TableFault.{TableFault}
use Rattle.refusals.specs.declared.TableFault.TheVariants.{TooLong, CutShort, OutOfOrder, OutsideLimits, Unknown, StartAttributes, WrongSide, NotOneRule, ReadsAhead, LowAboveHigh, Useless, LeftRecursive, Clash, NoProduction}
use Rattle.refusals.specs.Numbers.{fault_number}
use Rattle.table_fields.proofs.Cases.{nonzero}

pub faulty : (f : TableFault) → fault_number f ≡ 0 → ⊥
faulty TooLong e = nonzero 0 e
faulty CutShort e = nonzero 1 e
faulty OutOfOrder e = nonzero 2 e
faulty OutsideLimits e = nonzero 3 e
faulty Unknown e = nonzero 4 e
faulty StartAttributes e = nonzero 5 e
faulty WrongSide e = nonzero 6 e
faulty NotOneRule e = nonzero 7 e
faulty ReadsAhead e = nonzero 8 e
faulty LowAboveHigh e = nonzero 9 e
faulty Useless e = nonzero 10 e
faulty LeftRecursive e = nonzero 11 e
faulty Clash e = nonzero 12 e
faulty NoProduction e = nonzero 13 e
