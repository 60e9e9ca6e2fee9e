-- Occurrences of attributes as bits: bit a of the word at a position stands for attribute a there.
use Rattle.std.specs.Prelude.{ℕ, ◌+◌, ◌-◌, ◌/◌, ◌^◌, ◌≤◌, ◌<◌, ◌≡◌, true, false, List, get_or, length, set}
use Rattle.std.specs.Int.Bits.{bit_and, bit_or}
use Rattle.meaning.specs.Limits.{attributes_limit, positions_limit}
use Rattle.meaning.specs.Grammar.{Rule, Occurrence}
use Rattle.meaning.specs.Table.{byte}
use Rattle.table_fields.specs.Demand.{if_equal}
use Rattle.table_rules.specs.Rule.{Small, bit, class_at, operand_count, rule_items}
use Rattle.table_rules.specs.Note.{Notes}

-- the attributes above one number up to another
unfoldable pub range_word : ℕ → ℕ → ℕ
range_word low high = 2 ^ (high + 1) - 2 ^ (low + 1)

-- the words at a position, by the counts of its symbol: the inputs, the outputs, and all but the outputs
unfoldable pub input_word : ℕ → ℕ → ℕ → ℕ
input_word k i s = if_equal k 0 (range_word 0 i) (range_word i (i + s))

unfoldable pub output_word : ℕ → ℕ → ℕ → ℕ
output_word k i s = if_equal k 0 (range_word i (i + s)) (range_word 0 i)

unfoldable pub other_word : ℕ → ℕ → ℕ → ℕ
other_word k i s = 65535 - output_word k i s

-- a word for each position up to a width, by the counts of its symbol; the others as they were before
pub record Filled (f : ℕ → ℕ) (width none : ℕ) (words : List ℕ) : Type 0 where
  pub each : (k : ℕ) → k ≤ width → get_or words k 0 ≡ f k
  pub beyond : (k : ℕ) → width < k → k < positions_limit → get_or words k 0 ≡ none
  pub kept : length words ≡ positions_limit

-- only inputs of the production have a bit
pub record Inputs (width : ℕ) (inh syn words : List ℕ) : Type 0 where
  pub each : (p a : ℕ) → p < positions_limit → a < 16 → bit (get_or words p 0) a ≡ true → 1 ≡ class_at width inh syn p a

-- all have a bit but the outputs of the production that are not in its note, which has no other occurrences
pub record Settled (width : ℕ) (inh syn note words : List ℕ) : Type 0 where
  pub unset : (p a : ℕ) → p < positions_limit → a < 16 → bit (get_or words p 0) a ≡ false → (2 ≡ class_at width inh syn p a) × (bit (get_or note p 0) (a - 1) ≡ false)
  pub unnoted : (p a : ℕ) → p < positions_limit → a < 16 → 2 ≡ class_at width inh syn p a → bit (get_or note p 0) (a - 1) ≡ false → bit (get_or words p 0) a ≡ false
  pub only : (p a : ℕ) → p < positions_limit → 1 ≤ a → a ≤ attributes_limit → bit (get_or note p 0) (a - 1) ≡ true → 2 ≡ class_at width inh syn p a
  pub note_kept : length note ≡ positions_limit
  pub kept : length words ≡ positions_limit

-- the note with the target of a rule
abbrev pub noted_by : List ℕ → List ℕ → List ℕ
noted_by note b = set note (byte b 0) (bit_or (get_or note (byte b 0) 0) (2 ^ (byte b 1 - 1)))

-- a rule by a function with nothing wrong with it, and its target settled
abbrev pub RuleSettled : List ℕ → List ℕ → List ℕ → List ℕ → ℕ → Type 0
RuleSettled inputs words words' b f =
    (width : ℕ) (inh syn note : List ℕ) → Small width inh syn → Inputs width inh syn inputs → Settled width inh syn note words
    → (0 ≡ rule_items width inh syn note b (operand_count f)) × Settled width inh syn (noted_by note b) words'

-- the byte of a note at a position, by the word there and the counts of its symbol: the outputs that are settled
abbrev pub noted_in : ℕ → ℕ → ℕ → ℕ → ℕ
noted_in word k i s = bit_and word (output_word k i s) / 2

-- a note that stands for the same rules as the one by which the words are settled
abbrev pub NoteOf : ℕ → List ℕ → List ℕ → List ℕ → List ℕ → Type 0
NoteOf width inh syn words made = (note : List ℕ) (rs : List (Rule Occurrence)) → Settled width inh syn note words → Notes note rs → Notes made rs
