use mathlib.Core.Path.{refl}
use Rattle.host_answers.specs.ranked.Suggested.{suggested_as}
use borrow.Author.Rules.{rules}
use Rattle.host_answers.proofs.ranked.lend.Goals as goal

pub returns-in-Done : goal.returns-in-Done
returns-in-Done c =
    suggested_as _ _ _ _ _ c.args.answer _ c.in-Done.is (refl, search rules, refl, refl, refl)

pub returns-in-Refused : goal.returns-in-Refused
returns-in-Refused c =
    suggested_as _ _ _ _ _ c.args.answer _ c.in-Refused.is (refl, refl, refl, refl, refl)
