use mathlib.Core.Path.{refl}
use Rattle.host_answers.specs.judged.JudgeLent.{lent_as_lem}
use borrow.Author.Rules.{rules}
use Rattle.host_answers.proofs.judged.lend.Goals as goal

pub returns-in-Value : goal.returns-in-Value
returns-in-Value c =
    lent_as_lem c.args.judged _ _ _ _ c.in-Value.is (refl, search rules, refl)

pub returns-in-Uneven : goal.returns-in-Uneven
returns-in-Uneven c =
    lent_as_lem c.args.judged _ _ _ _ c.in-Uneven.is (refl, refl, refl)

pub returns-in-Wrong : goal.returns-in-Wrong
returns-in-Wrong c =
    lent_as_lem c.args.judged _ _ _ _ c.in-Wrong.is (refl, refl, refl)

pub returns-in-Unusable : goal.returns-in-Unusable
returns-in-Unusable c =
    lent_as_lem c.args.judged _ _ _ _ c.in-Unusable.is (refl, refl, refl)
