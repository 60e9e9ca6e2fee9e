-- What the writer asks and promises of a table that is accepted.
use Rattle.std.specs.Prelude.{ℕ, ◌≤◌, ◌<◌, ◌≡◌, List, Result, ◌++◌, length, get_or, take}
use Rattle.meaning.specs.Limits.{table_limit}
use Rattle.meaning_house.specs.House.{writing}
use Rattle.theory_order.specs.Planning.{Planned, copied}
use Rattle.refusals.specs.declared.CallRefusal.{CallRefusal}
use Rattle.house_write.specs.Answers.{house_is}

-- the plan of a table whose productions begin at these offsets, with room for it
pub record PlanReady (t offsets : List ℕ) (count size : ℕ) : Type 0 where
  pub plan : List ℕ
  pub room : ℕ
  pub planned : Planned t (take count offsets) plan room
  pub fits : room ≤ size
  pub small : size ≤ 1664
  pub some : 0 < count
  pub listed : count ≤ length offsets
  pub inside : get_or offsets 0 0 ≤ length t
  pub short : length t ≤ table_limit

-- what stands before the first production, then the planned fields
abbrev pub Writes : List ℕ → List ℕ → ℕ → ℕ → List ℕ → List ℕ → Result ℕ CallRefusal → Type 0
Writes t offsets count size out out' r = (x : PlanReady t offsets count size) → house_is r out' ≡ writing (take (get_or offsets 0 0) t ++ copied t x.plan) out
