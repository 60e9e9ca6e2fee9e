use Rattle.std.proofs.Common.{ℕ, sym, ap, ◌∙◌}
use Rattle.set_words.specs.Views.{members}
use Rattle.analysis.specs.Follows.{turn_on}
use Rattle.analysis_whole.proofs.follow.begin_with.Goals as goal

pub returns-then-has : goal.returns-then-has
returns-then-has c =
    λ u. ap (λ (x : ℕ). members x u) c.union.ensures.word ∙ turn_on _ c.args.first.now c.args.s _ u c.if-s-lt128.false (sym c.has.ensures ∙ c.if-has.true)
