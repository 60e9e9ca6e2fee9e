-- What the builder's functions ask and leave.
use Rattle.std.specs.Prelude.{ℕ, ◌+◌, ◌*◌, ◌≤◌, ◌<◌, ◌≡◌, List, length}
use Rattle.std.proofs.Common.{sym}
use Rattle.meaning.specs.Limits.{area_length, symbols_limit}
use Rattle.meaning.specs.Grammar.{Grammar, production_at}
use Rattle.meaning.specs.Rules.{WellFormed}
use Rattle.meaning.specs.Scheme.{entry_tests}
use Rattle.meaning.specs.Program.{wait_row, waits, records_from, bodies_from, records_address, waits_address, bodies_address, scheme_offset, body_size}
use Rattle.program_block_words.specs.Patch.{patch, Wrote}
use Rattle.outline.specs.declared.Sizes.{Sizes}
use Rattle.outline.specs.Images.{ImageOf}
use Rattle.outline.specs.Outline.{grammar_in, Starting, Outline, Outlined}
use Rattle.program_words.specs.Records.{NextOf, record_at, body_at}
use Rattle.program_words.specs.Waits.{wait_at}

module _ {table : List ℕ} {sizes : Sizes} {inherited synthesized rows offsets : List ℕ} (x : Outline table sizes inherited synthesized rows offsets) where
  pub well_formed_lem : WellFormed (grammar_in table)
  well_formed_lem = x.productions.rows_of.sound

  pub count_is : sizes.productions ≡ length (grammar_in table).productions
  count_is = sym x.productions.rows_of.counted

-- so many nodes are enough for the rules and conditions of each production of a table with so many bytes
abbrev pub LinksFit : ℕ → ℕ → Type 0
LinksFit bytes nodes = (nodes ≤ 1023) × ((n : ℕ) → n ≤ 616 → 8 * n ≤ bytes → n ≤ nodes)

pub record RecordFits (rows sets : List ℕ) (p body entries next : ℕ) (area : List ℕ) (at : ℕ) : Type 0 where
  pub count : ℕ
  pub grammar : Grammar
  pub rows_of : ImageOf rows count grammar
  pub starting : Starting grammar count sets
  pub here : p < count
  pub tests : entries ≡ length (entry_tests grammar (production_at grammar p))
  pub following : NextOf rows count p next
  pub behind : body + scheme_offset grammar (production_at grammar p) ≤ area_length
  pub room : at + 8 ≤ length area
  pub low : at ≤ area_length

pub record ProductionFits (table : List ℕ) (sizes : Sizes) (inherited synthesized rows offsets sets : List ℕ) (p : ℕ) (area : List ℕ) (at body : ℕ) : Type 0 where
  pub outlined : Outlined table sizes inherited synthesized rows offsets sets
  pub here : p < sizes.productions
  pub behind : body + body_size (grammar_in table) (production_at (grammar_in table) p) ≤ area_length
  pub low : at + 8 ≤ body
  pub long : area_length ≤ length area
  pub apart : wait_at (grammar_in table) p + symbols_limit ≤ body

-- the record is written, then what the places wait at and the body
pub record ProductionWrote (g : Grammar) (p : ℕ) (old new : List ℕ) (at body next : ℕ) : Type 0 where
  pub between : List ℕ
  pub recorded : Wrote old between at (at + 8) (record_at g p body)
  pub bodied : Wrote (patch between (wait_at g p) (wait_row g (production_at g p))) new body next (body_at g p body)

-- all records are written, and all bodies
pub record ProductionsWrote (g : Grammar) (old new : List ℕ) (next : ℕ) : Type 0 where
  pub between : List ℕ
  pub recorded : Wrote old between (records_address g) (waits_address g) (records_from g (bodies_address g) 0 g.productions)
  pub bodied : Wrote between new (bodies_address g) next (bodies_from g (bodies_address g) g.productions)

-- the same, and what all places wait at
abbrev pub AllWrote : Grammar → List ℕ → List ℕ → ℕ → Type 0
AllWrote g old new next = ProductionsWrote g (patch old (waits_address g) (waits g)) new next
