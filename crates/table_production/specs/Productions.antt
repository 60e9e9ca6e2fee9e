-- Where the reader stands between two productions.
use Rattle.std.specs.Prelude.{ℕ, ◌+◌, ◌*◌, ◌≤◌, ◌<◌, ◌≡◌, true, false, List, [], ◌∷◌, map, reverse, length, drop, Result, Ok, Err, IfOk, OnOk}
use Rattle.std.specs.Result.{MatchResult}
use Rattle.nonterminal_set.specs.declared.NonterminalSet.{NonterminalSet}
use Rattle.refusals.specs.declared.TableFault.{TableFault}
use Rattle.refusals.specs.declared.TableRefusal.{TableRefusal}
use Rattle.refusals.specs.Numbers.{fault_number, fault_or_zero}
use Rattle.outline.specs.Images.{rows_length}
use Rattle.meaning.specs.Limits.{table_limit, attributes_limit, nonterminals_limit, productions_limit, symbols_limit, terminals_limit}
use Rattle.meaning.specs.Grammar.{Counts, Symbol, Rule, Condition, Occurrence, counts_in}
use Rattle.meaning.specs.Table.{byte, Header, Entry, malformed, last_complete, symbol_of}
use Rattle.table_fields.specs.Field.{rest, judged, body_at}
use Rattle.table_fields.specs.Judge.{symbol_known, symbols_known}
use Rattle.table_fields.specs.Reads.{state_of, entry_of}
use Rattle.table_rules.specs.Note.{symbol_in}
use Rattle.outline.specs.declared.Sizes.{Sizes}
use Rattle.outline.specs.Outline.{Carries}
use Rattle.table_items.specs.declared.Items.{Items}
use Rattle.table_fields.specs.declared.Refused.{Refused}
use Rattle.table_counts.specs.Counted.{SmallCounts, counts_up_to}
use Rattle.outline.specs.Counts.{count_at_value, synthesized_at}
use Rattle.table_carriers.specs.Named.{NoCarrier}
use Rattle.table_rows.specs.RowWritten.{symbol_byte, Copied, RightWord}
use Rattle.table_occurrences.specs.OccurrenceBits.{Filled}
use Rattle.table_occurrence_words.specs.Placed.{input_at, other_at}
use Rattle.table.specs.Laid.{Laid}
use Rattle.table_items.specs.Progress.{Next}

-- the length of the right side, the body, the left and the right side of the production at an offset
abbrev pub width_in : List ℕ → ℕ → ℕ
width_in t at = byte t (at + 4)

abbrev pub body_in : List ℕ → ℕ → List ℕ
body_in t at = body_at t at (2 + width_in t at)

abbrev pub left_in : List ℕ → ℕ → ℕ
left_in t at = byte t (at + 3)

abbrev pub right_in : List ℕ → ℕ → List Symbol
right_in t at = map symbol_of (drop 2 (body_in t at))

-- what a good production field tells of the table
pub record ProductionKnown (t : List ℕ) (at p terminals nonterminals : ℕ) : Type 0 where
  pub long : at + 5 + width_in t at ≤ length t
  pub short : width_in t at ≤ symbols_limit
  pub few : p < productions_limit
  pub left : left_in t at < nonterminals
  pub symbols : (k : ℕ) → k < width_in t at → symbol_known terminals nonterminals (byte (body_in t at) (k + 2)) ≡ true

-- a production field judged, after p others: its number
pub record ProductionJudged (t : List ℕ) (at p terminals nonterminals number : ℕ) : Type 0 where
  pub read :
      (h : Header) (cs : List Counts) (os ws : List ℕ) (es : List Entry) (r c : ℕ)
      → h.terminals ≡ terminals → h.nonterminals ≡ nonterminals → nonterminals ≤ length cs → length es ≡ p → last_complete (state_of h cs os ws es r c) ≡ true
      → rest t (state_of h cs os ws es r c) at
      ≡ judged number at (rest t (state_of h cs os ws (entry_of at (left_in t at) (right_in t at) [] [] ∷ es) r c) (at + 5 + width_in t at))
  pub known : number ≡ 0 → ProductionKnown t at p terminals nonterminals

-- the same before its symbols on the right are looked at: they decide where nothing else is wrong
pub record HeadJudged (t : List ℕ) (at p nonterminals number : ℕ) : Type 0 where
  pub refused : (number ≡ 0 → ⊥) → (terminals : ℕ) → ProductionJudged t at p terminals nonterminals number
  pub unknown : number ≡ 0 → (terminals : ℕ) → symbols_known terminals nonterminals (body_in t at) 2 ≡ false → ProductionJudged t at p terminals nonterminals 5
  pub fine : number ≡ 0 → (terminals : ℕ) → symbols_known terminals nonterminals (body_in t at) 2 ≡ true → ProductionJudged t at p terminals nonterminals 0
  pub long : number ≡ 0 → at + 5 + width_in t at ≤ length t
  pub short : number ≡ 0 → width_in t at ≤ symbols_limit
  pub few : number ≡ 0 → p < productions_limit
  pub left : number ≡ 0 → left_in t at < nonterminals

-- the words at the positions of the production at an offset
abbrev pub WordsPlaced : List ℕ → ℕ → ℕ → List ℕ → List ℕ → List ℕ → List ℕ → Type 0
WordsPlaced t at carrying inherited synthesized inputs settled =
    Filled (input_at carrying inherited synthesized (body_in t at)) (width_in t at) 0 inputs × Filled (other_at carrying inherited synthesized (body_in t at)) (width_in t at) 65535 settled

-- the field of production p read, or its fault; where it is read its row, the word of its right side and the words at its positions
pub record FieldRead (t : List ℕ) (at p terminals nonterminals carrying : ℕ) (inherited synthesized rows₀ rows inputs settled : List ℕ) (right : Result NonterminalSet TableFault) : Type 0 where
  pub judged : ProductionJudged t at p terminals nonterminals (fault_or_zero right)
  pub kept : length rows ≡ rows_length
  pub copied : OnOk right (Copied rows₀ p (body_in t at) rows (length (body_in t at)))
  pub worded : IfOk right (λ word. RightWord (body_in t at) word.0)
  pub placed : OnOk right (WordsPlaced t at carrying inherited synthesized inputs settled)

-- the counts that the arrays hold at the positions of a production are at most 8 together
abbrev pub SmallBody : List ℕ → ℕ → ℕ → List ℕ → List ℕ → Type 0
SmallBody t at carrying inherited synthesized =
    (width_in t at ≤ symbols_limit)
    × ((k : ℕ) → k ≤ width_in t at → count_at_value inherited (symbol_byte (body_in t at) k) + synthesized_at carrying synthesized (symbol_byte (body_in t at) k) ≤ attributes_limit)

-- and those of the counts and terminals read, latest first
pub record CountsAgree (t : List ℕ) (at carrying : ℕ) (inherited synthesized : List ℕ) (cs : List Counts) (ws : List ℕ) : Type 0 where
  pub inherits : (k : ℕ) → k ≤ width_in t at → count_at_value inherited (symbol_byte (body_in t at) k) ≡ (counts_in (reverse cs) (reverse ws) (symbol_in (left_in t at) (right_in t at) k)).inherited
  pub synthesizes : (k : ℕ) → k ≤ width_in t at → synthesized_at carrying synthesized (symbol_byte (body_in t at) k) ≡ (counts_in (reverse cs) (reverse ws) (symbol_in (left_in t at) (right_in t at) k)).synthesized

-- the rules and conditions of the production at an offset read, or a refusal
abbrev pub BodyRead : List ℕ → ℕ → ℕ → List ℕ → List ℕ → ℕ → ℕ → Result Items Refused → Type 0
BodyRead t at carrying inherited synthesized r₀ c₀ (Ok u) =
    (h : Header) (cs : List Counts) (os ws : List ℕ) (es : List Entry) → h.nonterminals ≤ length cs → CountsAgree t at carrying inherited synthesized cs ws
    → (rs : List (Rule Occurrence)) × (cds : List (Condition Occurrence))
    × (rest t (state_of h cs os ws (entry_of at (left_in t at) (right_in t at) [] [] ∷ es) r₀ c₀) (at + 5 + width_in t at)
    ≡ rest t (state_of h cs os ws (entry_of at (left_in t at) (right_in t at) rs cds ∷ es) u.rules u.conditions) u.at)
    × (last_complete (state_of h cs os ws (entry_of at (left_in t at) (right_in t at) rs cds ∷ es) u.rules u.conditions) ≡ true)
BodyRead t at carrying inherited synthesized r₀ c₀ (Err x) =
    (h : Header) (cs : List Counts) (os ws : List ℕ) (es : List Entry) → h.nonterminals ≤ length cs → CountsAgree t at carrying inherited synthesized cs ws
    → rest t (state_of h cs os ws (entry_of at (left_in t at) (right_in t at) [] [] ∷ es) r₀ c₀) (at + 5 + width_in t at) ≡ malformed (fault_number x.fault) x.at

-- a fault at an offset, as a table is refused for it
abbrev pub refusal_of : TableFault → ℕ → TableRefusal
refusal_of f at = record { fault = f; offset = at }

-- production p with all its fields read, or a refusal; rows and offsets before and after
pub record ProductionRead (t : List ℕ) (at p terminals nonterminals carrying : ℕ) (inherited synthesized rows₀ offsets₀ : List ℕ) (r₀ c₀ : ℕ) (rows offsets : List ℕ) (u : Result Items TableRefusal) : Type 0 where
  pub read :
      (h : Header) (os ws : List ℕ) (es : List Entry)
      → h.terminals ≡ terminals → h.nonterminals ≡ nonterminals → length es ≡ p → last_complete (state_of h (counts_up_to inherited synthesized nonterminals) os ws es r₀ c₀) ≡ true → Laid rows₀ offsets₀ es → Carries carrying (reverse ws)
      → MatchResult u
      (λ v.
      (e : Entry)
      × (rest t (state_of h (counts_up_to inherited synthesized nonterminals) os ws es r₀ c₀) at
      ≡ rest t (state_of h (counts_up_to inherited synthesized nonterminals) os ws (e ∷ es) v.rules v.conditions) v.at)
      × (last_complete (state_of h (counts_up_to inherited synthesized nonterminals) os ws (e ∷ es) v.rules v.conditions) ≡ true)
      × Laid rows offsets (e ∷ es))
      (λ x. rest t (state_of h (counts_up_to inherited synthesized nonterminals) os ws es r₀ c₀) at ≡ malformed (fault_number x.fault) x.offset)
  pub next : IfOk u (λ v. Next t (at + 5) v)
  pub few : OnOk u (p < productions_limit)
  pub inside : MatchResult u (λ v. v.at ≤ length t) (λ x. x.offset ≤ length t)
  pub kept : (length rows ≡ rows_length) × (length offsets ≡ productions_limit)

-- the table after its header and counts
pub record HeaderRead (t : List ℕ) (sizes : Sizes) (inherited synthesized : List ℕ) : Type 0 where
  pub terminals : sizes.terminals ≡ byte t 3
  pub nonterminals : sizes.nonterminals ≡ byte t 4
  pub start : sizes.start ≡ byte t 5
  pub result : sizes.result ≡ byte t 6
  pub few : sizes.nonterminals ≤ nonterminals_limit
  pub tokens : sizes.terminals ≤ terminals_limit
  pub long : 7 + 5 * sizes.nonterminals ≤ length t
  pub short : length t ≤ table_limit
  pub small : SmallCounts inherited synthesized sizes.nonterminals
  pub first : length inherited ≡ nonterminals_limit
  pub second : length synthesized ≡ nonterminals_limit

-- and after its tag 6 fields, which end at an offset
pub record Begun (t : List ℕ) (from : ℕ) (sizes : Sizes) (inherited synthesized : List ℕ) : Type 0 where
  pub ready : HeaderRead t sizes inherited synthesized
  pub inside : from ≤ length t
  pub other : NoCarrier t from
