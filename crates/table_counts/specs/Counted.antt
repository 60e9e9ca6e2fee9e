-- The header and the counts as they are read.
use Rattle.std.specs.Prelude.{ℕ, zero, suc, ◌+◌, ◌*◌, ◌≤◌, ◌<◌, ◌≡◌, List, [], ◌∷◌, Result, get_or, length}
use Rattle.meaning.specs.Limits.{attributes_limit, nonterminals_limit, terminals_limit}
use Rattle.meaning.specs.Grammar.{Counts}
use Rattle.meaning.specs.Table.{byte, Header, State, nothing_read}
use Rattle.table_fields.specs.Reads.{state_of}
use Rattle.table_fields.specs.Field.{rest, judged}
use Rattle.refusals.specs.declared.TableRefusal.{TableRefusal}
use Rattle.table_counts.specs.Refused.{number_in, offset_in}

-- the header of a table that has one
abbrev pub header_in : List ℕ → Header
header_in t = record { terminals = byte t 3; nonterminals = byte t 4; start = byte t 5; result = byte t 6 }

abbrev pub headed : List ℕ → State
headed t = state_of (header_in t) [] [] [] [] 0 0

-- the first n counts, the latest first, by the inherited and the synthesized ones
abbrev pub counts_up_to : List ℕ → List ℕ → ℕ → List Counts
counts_up_to inherited synthesized zero = []
counts_up_to inherited synthesized (suc n) = record { inherited = get_or inherited n 0; synthesized = get_or synthesized n 0 } ∷ counts_up_to inherited synthesized n

-- the offsets of the first n tag 2 fields, the latest first
abbrev pub offsets_up_to : ℕ → List ℕ
offsets_up_to zero = []
offsets_up_to (suc n) = (7 + 5 * n) ∷ offsets_up_to n

-- the state after n tag 2 fields
abbrev pub counted : List ℕ → List ℕ → List ℕ → ℕ → State
counted t inherited synthesized n = state_of (header_in t) (counts_up_to inherited synthesized n) (offsets_up_to n) [] [] 0 0

abbrev pub SmallCounts : List ℕ → List ℕ → ℕ → Type 0
SmallCounts inherited synthesized n = (m : ℕ) → m < n → get_or inherited m 0 + get_or synthesized m 0 ≤ attributes_limit

-- the header judged: its number
pub record HeaderJudged (t : List ℕ) (number : ℕ) : Type 0 where
  pub read : rest t nothing_read 0 ≡ judged number 0 (rest t (headed t) 7)
  pub long : number ≡ 0 → 7 ≤ length t
  pub few : number ≡ 0 → byte t 4 ≤ nonterminals_limit
  pub tokens : number ≡ 0 → byte t 3 ≤ terminals_limit

-- the counts of nonterminal n judged: their number
pub record CountsJudged (t : List ℕ) (at n start result number : ℕ) : Type 0 where
  pub read :
      (h : Header) (cs : List Counts) (os : List ℕ) → length cs ≡ n → n < h.nonterminals → h.start ≡ start → h.result ≡ result
      → rest t (state_of h cs os [] [] 0 0) at
      ≡ judged number at (rest t (state_of h (record { inherited = byte t (at + 3); synthesized = byte t (at + 4) } ∷ cs) (at ∷ os) [] [] 0 0) (at + 5))
  pub long : number ≡ 0 → at + 5 ≤ length t
  pub small : number ≡ 0 → byte t (at + 3) + byte t (at + 4) ≤ attributes_limit

-- all counts read, or a refusal
pub record CountsRead {A : Type 0} (t : List ℕ) (n : ℕ) (inherited synthesized : List ℕ) (r : Result A TableRefusal) : Type 0 where
  pub read : rest t (headed t) 7 ≡ judged (number_in r) (offset_in r) (rest t (counted t inherited synthesized n) (7 + 5 * n))
  pub long : number_in r ≡ 0 → 7 + 5 * n ≤ length t
  pub small : number_in r ≡ 0 → SmallCounts inherited synthesized n
  pub inside : offset_in r ≤ length t
