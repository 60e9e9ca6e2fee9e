-- The table of two ranges, judged. 01: "Ranges 0 to 4 and 5 to 9 don't clash ★; 0 to 5 and 5 to 9 do ★"
use Rattle.std.specs.Prelude.{ℕ, ◌≡◌, refl, List, [], ◌∷◌}
use Rattle.meaning.specs.Judgement.{Verdict, accepted, rejected, Judged}
use Rattle.meaning.specs.Decide.{verdict_of}
use Rattle.theory_sets.specs.Accepted.{judged_is}

-- S to L, with d = 0; two productions of L to the one token, for d from a to b and from c to d; n of each is 0
unfoldable pub two_ranges : ℕ → ℕ → ℕ → ℕ → List ℕ
two_ranges a b c d =
    1 ∷ 0 ∷ 4 ∷ 1 ∷ 2 ∷ 0 ∷ 1
    ∷ 2 ∷ 0 ∷ 2 ∷ 0 ∷ 1
    ∷ 2 ∷ 0 ∷ 2 ∷ 1 ∷ 1
    ∷ 3 ∷ 0 ∷ 3 ∷ 0 ∷ 1 ∷ 129
    ∷ 4 ∷ 0 ∷ 7 ∷ 1 ∷ 1 ∷ 0 ∷ 0 ∷ 0 ∷ 0 ∷ 0
    ∷ 4 ∷ 0 ∷ 5 ∷ 0 ∷ 1 ∷ 1 ∷ 1 ∷ 2
    ∷ 3 ∷ 0 ∷ 3 ∷ 1 ∷ 1 ∷ 0
    ∷ 4 ∷ 0 ∷ 7 ∷ 0 ∷ 2 ∷ 0 ∷ 0 ∷ 0 ∷ 0 ∷ 0
    ∷ 5 ∷ 0 ∷ 11 ∷ 0 ∷ 0 ∷ 1 ∷ 0 ∷ 0 ∷ 0 ∷ a ∷ 0 ∷ 0 ∷ 0 ∷ b
    ∷ 3 ∷ 0 ∷ 3 ∷ 1 ∷ 1 ∷ 0
    ∷ 4 ∷ 0 ∷ 7 ∷ 0 ∷ 2 ∷ 0 ∷ 0 ∷ 0 ∷ 0 ∷ 0
    ∷ 5 ∷ 0 ∷ 11 ∷ 0 ∷ 0 ∷ 1 ∷ 0 ∷ 0 ∷ 0 ∷ c ∷ 0 ∷ 0 ∷ 0 ∷ d
    ∷ []

-- the verdict, as computed and as 01 says it by derivations
pub record Verdicts (bs : List ℕ) (v : Verdict) : Type 0 where
  pub computed : verdict_of bs ≡ v
  pub judged : Judged bs v

pub verdicts : (bs : List ℕ) (v : Verdict) → verdict_of bs ≡ v → Verdicts bs v
verdicts bs v e = record { computed = e; judged = (judged_is bs v).1 e }

pub apart : Verdicts (two_ranges 0 4 5 9) accepted
unfolding two_ranges
apart = verdicts (two_ranges 0 4 5 9) accepted refl

-- at the second production of L
pub touching : Verdicts (two_ranges 0 5 5 9) (rejected 13 71)
unfolding two_ranges
touching = verdicts (two_ranges 0 5 5 9) (rejected 13 71) refl
