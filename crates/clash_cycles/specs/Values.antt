-- The values of the nodes, as the code writes them into nine cells.
use Rattle.std.specs.Prelude.{ℕ, ◌≤◌, ◌<◌, ◌≡◌, List, ℤ, pos, nat_abs, get_or, Option, MatchOption}
use Rattle.meaning.specs.Grammar.{Condition}
use Rattle.meaning_statements.specs.CompareStatements.{Meets, NegativeCycle}
use Rattle.theory_differences.specs.Solving.{solution}
use Rattle.theory_differences.specs.Decided.{listed}

abbrev pub node_value : List ℤ → ℕ → ℤ
node_value v i = get_or v i (pos 0)

-- none is further from zero
abbrev pub Near : ℕ → List ℤ → Type 0
Near b v = (i : ℕ) → i < 9 → nat_abs (node_value v i) ≤ b

-- the nodes up to k have their places, and the others 0
abbrev pub Placed : (ℕ → ℕ → ℤ) → ℕ → List ℤ → Type 0
Placed M k v = (i : ℕ) → i < 9 → node_value v i ≡ solution M k i

-- the values of the nodes 1 to n meet the conditions, or a cycle has a negative sum
abbrev pub Solves : Option (List ℤ) → ℕ → List (Condition ℕ) → Type 0
Solves r n cs = MatchOption r (NegativeCycle n cs) (λ v. Meets n cs (listed (node_value v) 1 n))
