use Rattle.std.proofs.Common.{ℕ, Bool, false, ◌≡◌, not, ◌&&◌, T, rules}
use Rattle.std.proofs.lemmas.Iterator.{first_from_Range}
use Rattle.theory_base.specs.Members.{true→T}
use Rattle.set_words.specs.Views.{members}
use Rattle.analysis.specs.Lowest.{lowest_in}
use Rattle.analysis.proofs.judging.lowest_useless.Goals as goal

false_not : (b : Bool) → b ≡ false → T b → ⊥
false_not b e t = rw e at t

pub returns : goal.returns
returns c =
    let f = λ (i : ℕ). not (members c.args.reached.0 i && members c.args.productive.0 i) in
    lowest_in f _ _ (first_from_Range _ _ _ _ (λ i. T (f i)) (λ i. T (f i) → ⊥) c.find.ensures.ran (λ x q t. true→T _ (search rules)) (λ x q t. (search rules, false_not _ (search rules))))
