-- States with a header read, by their parts.
use Rattle.std.specs.Prelude.{ℕ, List}
use Rattle.std.proofs.Math.Option.{some}
use Rattle.meaning.specs.Grammar.{Counts, Symbol, Rule, Condition, Occurrence}
use Rattle.meaning.specs.Table.{Header, State, Entry}

abbrev pub state_of : Header → List Counts → List ℕ → List ℕ → List Entry → ℕ → ℕ → State
state_of h cs os ws es r c = record { header = some h; counts = cs; counts_offsets = os; carrying = ws; entries = es; rules = r; conditions = c }

abbrev pub entry_of : ℕ → ℕ → List Symbol → List (Rule Occurrence) → List (Condition Occurrence) → Entry
entry_of o l xs rs cs = record { offset = o; left = l; right = xs; rules = rs; conditions = cs }
