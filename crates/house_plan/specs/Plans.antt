-- What the plan of a production and of a table asks and promises.
use Rattle.std.specs.Prelude.{ℕ, ◌+◌, ◌≤◌, ◌≡◌, List, [], ◌++◌, length, take}
use Rattle.theory_order.specs.Gathering.{gathered}
use Rattle.theory_order.specs.FieldWalk.{size_at, key_at, Fields, tagged}
use Rattle.theory_order.specs.Planning.{plan_of, uses, Planned}

-- the fields with the tag, put in their places, stand behind the first n offsets, which stay
abbrev pub GathersBehind : List ℕ → ℕ → ℕ → ℕ → List ℕ → ℕ → List ℕ → ℕ → Type 0
GathersBehind t body tag width plan n plan' r = (os : List ℕ) → Fields t body os → (take r plan' ≡ take n plan ++ gathered (key_at width t) [] (tagged t tag os)) × (r ≤ n + length (tagged t tag os))

-- the fields behind a production's own are whole, and have room in the plan
pub record ProductionRoom (t : List ℕ) (from n room : ℕ) : Type 0 where
  pub fields : List ℕ
  pub walk : Fields t (from + 3 + size_at t from) fields
  pub fits : n + 1 + uses t fields ≤ room

-- the production's plan stands behind the first n offsets, which stay
abbrev pub ProductionPlanned : List ℕ → ℕ → List ℕ → ℕ → List ℕ → ℕ → Type 0
ProductionPlanned t from plan n plan' r = (os : List ℕ) → Fields t (from + 3 + size_at t from) os → (take r plan' ≡ take n plan ++ plan_of t from os) × (r ≤ n + 1 + uses t os)

pub record TableRoom (t offsets : List ℕ) (size : ℕ) : Type 0 where
  pub plan : List ℕ
  pub room : ℕ
  pub planned : Planned t offsets plan room
  pub fits : room ≤ size

-- the first r offsets are the plan
abbrev pub TablePlanned : List ℕ → List ℕ → List ℕ → ℕ → Type 0
TablePlanned t offsets plan' r = (plan : List ℕ) (room : ℕ) → Planned t offsets plan room → (take r plan' ≡ plan) × (r ≤ room)
