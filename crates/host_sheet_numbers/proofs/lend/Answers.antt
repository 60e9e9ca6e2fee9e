use mathlib.Core.Path.{refl}
use Rattle.host_sheet_numbers.specs.SheetLent.{lent_as_lem}
use borrow.Author.Rules.{rules}
use Rattle.host_sheet_numbers.proofs.lend.Goals as goal

pub returns-in-Value : goal.returns-in-Value
returns-in-Value c =
    lent_as_lem c.args.answer _ _ _ _ _ c.in-Value.is (refl, search rules, refl, refl)

pub returns-in-Refused : goal.returns-in-Refused
returns-in-Refused c =
    lent_as_lem c.args.answer _ _ _ _ _ c.in-Refused.is (refl, refl, refl, refl)

pub returns-in-TableRefused : goal.returns-in-TableRefused
returns-in-TableRefused c =
    lent_as_lem c.args.answer _ _ _ _ _ c.in-TableRefused.is (refl, refl, refl, refl)
