-- The answer of a check of a sheet as the numbers that a host lends.
use Rattle.std.specs.Prelude.{ℕ, ◌≡◌, List, ℤ, pos}
use Rattle.std.proofs.Common.{sym, subst}
use Rattle.meaning_judge.specs.Judge.{JudgeAnswer, worth, turned_back, JudgedAs}
use Rattle.judge_sheet.specs.Judged.{judgement_is}
use Rattle.judge_sheet.specs.declared.Judgement.{Judgement}

-- 0, the value and 0; or a refusal's number, 0, and what stands beside it
abbrev pub LentAs : JudgeAnswer → ℕ → ℤ → ℕ → Type 0
LentAs (worth v) number value offset = (number ≡ 0) × (value ≡ v) × (offset ≡ 0)
LentAs (turned_back n o) number value offset = (number ≡ n) × (value ≡ pos 0) × (offset ≡ o)

pub record JudgedLent (bs ks : List ℕ) (vs : List ℤ) (bytes : List ℕ) (number : ℕ) (value : ℤ) (offset : ℕ) : Type 0 where
  pub answer : JudgeAnswer
  pub judged : JudgedAs bs ks vs bytes answer
  pub lent : LentAs answer number value offset

-- an answer by the numbers of each case
pub lent_as_lem : (r d : Judgement) (number : ℕ) (value : ℤ) (offset : ℕ) → r ≡ d → LentAs (judgement_is d) number value offset → LentAs (judgement_is r) number value offset
lent_as_lem r d number value offset e = subst (λ z. LentAs (judgement_is z) number value offset) (sym e)

pub judged_lent : (bs ks : List ℕ) (vs : List ℤ) (bytes : List ℕ) (r : Judgement) → JudgedAs bs ks vs bytes (judgement_is r) → (number : ℕ) (value : ℤ) (offset : ℕ) → LentAs (judgement_is r) number value offset → JudgedLent bs ks vs bytes number value offset
judged_lent bs ks vs bytes r j number value offset l = record { answer = judgement_is r; judged = j; lent = l }
