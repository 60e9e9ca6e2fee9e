use Rattle.std.proofs.Common.{rules, ◌≡◌, ◌∙◌, sym, refl, sum}
use Rattle.std.proofs.lemmas.List.Recursion.{is_sum_by}
use Rattle.meaning.specs.Base.{total}
use Rattle.rank_suits.proofs.sum_of.Goals as goal

pub returns : goal.returns
returns c =
    let e : c.sum.result ≡ sum c.args.lengths.now = search rules in
    e ∙ sym (is_sum_by total (λ n. n) refl (λ _ _. refl) c.args.lengths.now)
