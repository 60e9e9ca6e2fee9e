-- What the ranking passes on, in lent numbers.
use Rattle.std.specs.Prelude.{ℕ, ◌≡◌, refl, List, ℤ, pos}
use Rattle.std.proofs.Common.{sym, subst}
use Rattle.meaning.specs.PublicCalls.{stacks_of}
use Rattle.meaning_ranking.specs.RankCall.{RankAnswer, ranked, unranked, RankEffect}
use Rattle.rank_report.specs.Answers.{rank_answer_is, rank_is}
use Rattle.rank_report.specs.declared.Ranked.{Ranked}

-- the answer as five numbers: how many were valued, their total, the entries, with 0 and 0; or 0, 0 and 0, with the refusal's number and offset
abbrev pub Suggested : ℕ → ℤ → ℕ → ℕ → ℕ → RankAnswer → Type 0
Suggested valued sum entries number offset (ranked n t k) = (valued ≡ n) × (sum ≡ t) × (entries ≡ k) × (number ≡ 0) × (offset ≡ 0)
Suggested valued sum entries number offset (unranked n o) = (valued ≡ 0) × (sum ≡ pos 0) × (entries ≡ 0) × (number ≡ n) × (offset ≡ o)

-- and the list, the stacks and the program area
abbrev pub RankPassedOn : ℕ → ℤ → ℕ → ℕ → ℕ → List ℤ → List ℤ → List ℕ → List ℕ → RankEffect → Type 0
RankPassedOn valued sum entries number offset list vs ps area e = Suggested valued sum entries number offset e.answer × (list ≡ e.list) × (stacks_of vs ps ≡ e.stacks) × (area ≡ e.area)

-- an answer by the numbers of each case
pub suggested_as : (valued : ℕ) (sum : ℤ) (entries number offset : ℕ) (r d : Ranked) → r ≡ d → Suggested valued sum entries number offset (rank_answer_is d) → Suggested valued sum entries number offset (rank_answer_is r)
suggested_as valued sum entries number offset r d e = subst (λ z. Suggested valued sum entries number offset (rank_answer_is z)) (sym e)

pub passed_on : (r : Ranked) (list vs : List ℤ) (ps area : List ℕ) (e : RankEffect) → rank_is r list vs ps area ≡ e
    → (valued : ℕ) (sum : ℤ) (entries number offset : ℕ) → Suggested valued sum entries number offset (rank_answer_is r) → RankPassedOn valued sum entries number offset list vs ps area e
passed_on r list vs ps area e q valued sum entries number offset a = subst (RankPassedOn valued sum entries number offset list vs ps area) q (a, refl, refl, refl)
