use native.Mathlib.Omega.{arith}
use mathlib.Core.Path.{ap, ◌∙◌}
use Rattle.meaning.specs.Sets.{singleton}
use Rattle.analysis.specs.TokenAgreeing.{below}
use Rattle.analysis.specs.Firsts.{lefts_below, rights_with}
use Rattle.analysis.specs.Judged.{useless_found}
use Rattle.analysis_reachable.proofs.useless.Goals as goal

pub of_nonterminal-first-requires : goal.of_nonterminal-first-requires
of_nonterminal-first-requires c = omega (arith, c.requires.2)

pub returns : goal.returns
returns c =
    let all = c.first_of-all.ensures in
    λ g r n s.
    useless_found r _ _ _ _ (c.of_nonterminal-first.ensures ∙ ap singleton s) (c.reach-reached.ensures (rights_with _ (rw n (below r)) _ _ c.union-every.ensures.word all)) (c.productive-live.ensures (lefts_below _ (rw n (below r)) _ all))
    (rw n at c.lowest_useless.ensures)
