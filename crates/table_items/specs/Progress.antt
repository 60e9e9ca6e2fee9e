-- Where the reader stands between two fields of a production.
use Rattle.std.specs.Prelude.{ℕ, ◌+◌, ◌≤◌, ◌<◌, ◌≡◌, Bool, true, false, List, [], ◌∷◌, length, Result, Ok, Err}
use Rattle.meaning.specs.Grammar.{Counts, Symbol, Rule, Condition, Occurrence}
use Rattle.meaning.specs.Table.{byte, Header, State, Entry, malformed, current, last_complete, read_field, kind_of}
use Rattle.table_fields.specs.Reads.{state_of, entry_of}
use Rattle.table_fields.specs.Field.{Whole, rest, judged, body_at}
use Rattle.table_rules.specs.Note.{Placed, Notes}
use Rattle.table_items.specs.declared.Items.{Items}
use Rattle.table_fields.specs.declared.Refused.{Refused}
use Rattle.refusals.specs.declared.TableFault.TheVariants.{NotOneRule}
use Rattle.refusals.specs.Numbers.{fault_number}

-- the production is over: its table is, or a tag byte 3 follows
abbrev pub Over : List ℕ → ℕ → Type 0
Over t at = at < length t → byte t at ≡ 3

-- a table, a production's offset, and the counts at its positions
pub record Setting : Type 0 where
  pub table : List ℕ
  pub offset : ℕ
  pub width : ℕ
  pub inh : List ℕ
  pub syn : List ℕ

abbrev pub setting_of : List ℕ → ℕ → ℕ → List ℕ → List ℕ → Setting
setting_of t o width inh syn = record { table = t; offset = o; width = width; inh = inh; syn = syn }

-- what else a state in that production holds
pub record Around (g : Setting) : Type 0 where
  pub header : Header
  pub counts : List Counts
  pub offsets : List ℕ
  pub named : List ℕ
  pub left : ℕ
  pub right : List Symbol
  pub others : List Entry
  pub all : header.nonterminals ≤ length counts
  pub placed : Placed counts named left right g.width g.inh g.syn

abbrev pub state_in : (g : Setting) → Around g → List (Rule Occurrence) → List (Condition Occurrence) → ℕ → ℕ → State
state_in g a rs cds r c = state_of a.header a.counts a.offsets a.named (entry_of g.offset a.left a.right rs cds ∷ a.others) r c

-- the state after the field at an offset, of a size
abbrev pub field_read : (g : Setting) → Around g → List (Rule Occurrence) → List (Condition Occurrence) → ℕ → ℕ → ℕ → ℕ → State
field_read g a rs cds r c at size = read_field (state_in g a rs cds r c) at (kind_of (byte g.table at)) (body_at g.table at size)

-- a rule or condition taken, after r rules and c conditions of the table: its number, and the note before and after.
-- 02: "after each rule field the notes hold exactly the occurrences that its production's rules have set so far"
pub record ItemTaken (t : List ℕ) (at size r c width : ℕ) (inh syn note note' : List ℕ) (number : ℕ) : Type 0 where
  pub read :
      (o : ℕ) (a : Around (setting_of t o width inh syn)) (rs : List (Rule Occurrence)) (cds : List (Condition Occurrence)) → Notes note rs
      → rest t (state_in (setting_of t o width inh syn) a rs cds r c) at
      ≡ judged number at (rest t (field_read (setting_of t o width inh syn) a rs cds r c at size) (at + 3 + size))
  pub notes :
      (o : ℕ) (a : Around (setting_of t o width inh syn)) (rs : List (Rule Occurrence)) (cds : List (Condition Occurrence)) → Notes note rs
      → number ≡ 0 → Notes note' (current (field_read (setting_of t o width inh syn) a rs cds r c at size)).rules
  pub same : (number ≡ 0 → ⊥) → note' ≡ note
  pub whole : number ≡ 0 → Whole t at size
  pub kinds : number ≡ 0 → (byte t at ≡ 4 → ⊥) → byte t at ≡ 5

-- the note after each field: exactly the occurrences that the production's rules have set so far
abbrev pub Walked : Setting → ℕ → ℕ → ℕ → List ℕ → ℕ → ℕ → ℕ → Type 0
Walked g from r₀ c₀ note at r c =
    (a : Around g)
    → (rs : List (Rule Occurrence)) × (cds : List (Condition Occurrence)) × Notes note rs
    × (rest g.table (state_in g a [] [] r₀ c₀) from ≡ rest g.table (state_in g a rs cds r c) at)

-- past fields from an offset to another, wherever the production's fields start
pub record Walking (t : List ℕ) (from offset width : ℕ) (inh syn : List ℕ) (r₀ c₀ : ℕ) (note₀ note : List ℕ) (at r c : ℕ) : Type 0 where
  pub after : from ≤ at
  pub inside : at ≤ length t
  pub rules : r ≤ at
  pub conditions : c ≤ at
  pub walked :
      (start p q : ℕ) → Walked (setting_of t offset width inh syn) start p q note₀ from r₀ c₀
      → Walked (setting_of t offset width inh syn) start p q note at r c

-- all rules and conditions of the production read, or a refusal
abbrev pub ItemsRead : Setting → ℕ → ℕ → ℕ → Result Items Refused → Type 0
ItemsRead g from r₀ c₀ (Ok u) =
    (a : Around g)
    → (rs : List (Rule Occurrence)) × (cds : List (Condition Occurrence))
    × (rest g.table (state_in g a [] [] r₀ c₀) from ≡ rest g.table (state_in g a rs cds u.rules u.conditions) u.at)
    × (last_complete (state_in g a rs cds u.rules u.conditions) ≡ true)
ItemsRead g from r₀ c₀ (Err x) = (a : Around g) → rest g.table (state_in g a [] [] r₀ c₀) from ≡ malformed (fault_number x.fault) x.at

-- the same from one of its fields on, with the note of those before, wherever they start
abbrev pub ItemsReadFrom : Setting → List ℕ → ℕ → ℕ → ℕ → Result Items Refused → Type 0
ItemsReadFrom g note from r c u = (start r₀ c₀ : ℕ) → Walked g start r₀ c₀ note from r c → ItemsRead g start r₀ c₀ u

-- the field behind what was read before is read too; the note before and after
pub record OneRead (t : List ℕ) (done : Items) (width : ℕ) (inh syn note note' : List ℕ) (u : Items) : Type 0 where
  pub onward : (offset : ℕ) → Walking t done.at offset width inh syn done.rules done.conditions note note' u.at u.rules u.conditions
  pub further : done.at < u.at
  pub inside : u.at ≤ length t

-- one more read, or a refusal of it
abbrev pub ItemRead : List ℕ → Items → ℕ → List ℕ → List ℕ → List ℕ → List ℕ → Result Items Refused → Type 0
ItemRead t done width inh syn note note' (Ok u) = OneRead t done width inh syn note note' u
ItemRead t done width inh syn note note' (Err x) =
    ((offset : ℕ) → ItemsReadFrom (setting_of t offset width inh syn) note done.at done.rules done.conditions (Err x)) × (x.at ≤ length t)

-- where the next production starts, or the field that is refused
abbrev pub place_of : Result Items Refused → ℕ
place_of (Ok u) = u.at
place_of (Err x) = x.at

-- where the next production starts
pub record Next (t : List ℕ) (from : ℕ) (u : Items) : Type 0 where
  pub after : from ≤ u.at
  pub inside : u.at ≤ length t
  pub over : Over t u.at
  pub rules : u.rules ≤ u.at
  pub conditions : u.conditions ≤ u.at

-- the end of a production with a gap or without one: 8 at its own offset, or the next offset
abbrev pub end_of : Bool → ℕ → ℕ → ℕ → ℕ → Result Items Refused
end_of true offset at r c = Err (record { fault = NotOneRule; at = offset })
end_of false offset at r c = Ok (record { at = at; rules = r; conditions = c })
