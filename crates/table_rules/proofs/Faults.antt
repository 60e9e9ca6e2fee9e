-- A fault has a number above 0, which stands for none.
use Prim.Native.Nat.{◌≤◌}
use mathlib.Core.Path.{◌≡◌, refl, sym, subst}
use mathlib.Core.Bool.{true, true≢false}
use native.Mathlib.Omega.{arith}
use Rattle.std.specs.Prelude.{Result, Ok, Err, OnErr}
use Rattle.std.specs.Result.{is_err, IsErrAnd}
use Rattle.refusals.specs.declared.TableFault.{TableFault}
use Rattle.refusals.specs.declared.TableFault.TheVariants.{TooLong, CutShort, OutOfOrder, OutsideLimits, Unknown, StartAttributes, WrongSide, NotOneRule, ReadsAhead, LowAboveHigh, Useless, LeftRecursive, Clash, NoProduction}
use Rattle.refusals.specs.Numbers.{fault_number, fault_or_zero}

pub fault_positive : (f : TableFault) → 1 ≤ fault_number f
fault_positive TooLong = omega arith
fault_positive CutShort = omega arith
fault_positive OutOfOrder = omega arith
fault_positive OutsideLimits = omega arith
fault_positive Unknown = omega arith
fault_positive StartAttributes = omega arith
fault_positive WrongSide = omega arith
fault_positive NotOneRule = omega arith
fault_positive ReadsAhead = omega arith
fault_positive LowAboveHigh = omega arith
fault_positive Useless = omega arith
fault_positive LeftRecursive = omega arith
fault_positive Clash = omega arith
fault_positive NoProduction = omega arith

pub fault_few : (f : TableFault) → fault_number f ≤ 14
fault_few TooLong = omega arith
fault_few CutShort = omega arith
fault_few OutOfOrder = omega arith
fault_few OutsideLimits = omega arith
fault_few Unknown = omega arith
fault_few StartAttributes = omega arith
fault_few WrongSide = omega arith
fault_few NotOneRule = omega arith
fault_few ReadsAhead = omega arith
fault_few LowAboveHigh = omega arith
fault_few Useless = omega arith
fault_few LeftRecursive = omega arith
fault_few Clash = omega arith
fault_few NoProduction = omega arith

pub fault_some : (f : TableFault) → fault_number f ≡ 0 → ⊥
fault_some f e = omega (arith, fault_positive f)

pub err_some : {A : Type 0} (r : Result A TableFault) → is_err r ≡ true → fault_or_zero r ≡ 0 → ⊥
err_some (Ok x) h e = absurd (true≢false (sym h))
err_some (Err f) h e = fault_some f e

pub on_err : {A P : Type 0} (r : Result A TableFault) → OnErr r P → (fault_or_zero r ≡ 0 → ⊥) → P
on_err (Ok x) p n = absurd (n refl)
on_err (Err f) p n = p

-- what holds of the error that a `?` passes on holds of the answer
pub err_passed : {A E : Type 0} (P : Result A E → Type 0) (r : Result A E) (x : E) → IsErrAnd r (λ y. y ≡ x) → P (Err x) → P r
err_passed P (Ok y) x e p = absurd e
err_passed P (Err y) x e p = subst (λ z. P (Err z)) (sym e) p
