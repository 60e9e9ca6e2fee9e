use Rattle.std.proofs.Common.{le_refl}
use Rattle.std.specs.Prelude.{Some, None}
use Rattle.analysis.specs.Agreeing.{nullable_marks}
use Rattle.analysis.specs.TokenAgreeing.{below}
use Rattle.analysis.specs.Judged.{recursive_found}
use Rattle.analysis.specs.Finding.{found_useless, found_recursive, found_neither}
use Rattle.analysis.specs.Lowest.{found_some_lowest, found_no_lowest}
use Rattle.analysis_whole.proofs.analyse.Goals as goal

pub returns-in-Some : goal.returns-in-Some
returns-in-Some c =
    λ g r n s.
    let d = c.in-Some.ensures g r n s in
    found_useless g _ _ (found_some_lowest _ _ _ d) d.0

pub returns-in-Some-left_recursive : goal.returns-in-Some-left_recursive
returns-in-Some-left_recursive c =
    λ g r n s.
    let d = recursive_found r _ (Some c.in-Some-left_recursive.nonterminal) _ (nullable_marks r _ c.nullable-null.ensures) (c.fronts.ensures.led (rw n (below r))) (rw n at c.in-Some-left_recursive.ensures) in
    found_recursive g _ _ (found_no_lowest _ _ (c.in_default.ensures g r n s)) (le_refl _) _ (found_some_lowest _ _ _ d) d.0

pub returns : goal.returns
returns c =
    λ g r n s.
    let m = nullable_marks r _ c.nullable-null.ensures in
    let d = recursive_found r _ None _ m (c.fronts.ensures.led (rw n (below r))) (rw n at c.in_default-left_recursive.ensures) in
    found_neither g _ _ (found_no_lowest _ _ (c.in_default.ensures g r n s)) (le_refl _) _ (found_no_lowest _ _ d) (le_refl _) (c.starting.ensures g r n s m (c.fronts.ensures.first (rw n (below r))))
