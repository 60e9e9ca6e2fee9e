-- What a walk along a right side tells of each symbol, and what it leaves behind.
use Rattle.std.specs.Prelude.{ℕ, ◌+◌, ◌≤◌, ◌<◌, ◌≡◌, true, List, length, Option, IfSome}
use Rattle.std.specs.Option.{is_some}
use Rattle.nonterminal_set.specs.declared.NonterminalSet.{NonterminalSet}
use Rattle.outline.specs.Images.{rows_length, symbol_bytes}
use Rattle.meaning.specs.Limits.{attributes_limit}
use Rattle.meaning.specs.Table.{symbol_of}
use Rattle.table_fields.specs.Judge.{symbol_known, symbols_known}
use Rattle.outline.specs.Counts.{count_at_value, synthesized_at}
use Rattle.set_words.specs.Views.{members, symbol_bit}
use Rattle.table_rows.specs.RowWritten.{symbol_byte, Copied, RightWord}
use Rattle.table_occurrences.specs.OccurrenceBits.{input_word, other_word, Filled}

-- the words at a position of a production, by its body: the inputs, and all but the outputs
abbrev pub input_at : ℕ → List ℕ → List ℕ → List ℕ → ℕ → ℕ
input_at carrying inherited synthesized b k = input_word k (count_at_value inherited (symbol_byte b k)) (synthesized_at carrying synthesized (symbol_byte b k))

abbrev pub other_at : ℕ → List ℕ → List ℕ → List ℕ → ℕ → ℕ
other_at carrying inherited synthesized b k = other_word k (count_at_value inherited (symbol_byte b k)) (synthesized_at carrying synthesized (symbol_byte b k))

-- known symbols are tokens, or nonterminals that a table can have, with at most 8 attributes
abbrev pub KnownSmall : ℕ → ℕ → ℕ → List ℕ → List ℕ → Type 0
KnownSmall terminals nonterminals carrying inherited synthesized = (s : ℕ) → symbol_known terminals nonterminals s ≡ true → (s < symbol_bytes) × (count_at_value inherited s + synthesized_at carrying synthesized s ≤ attributes_limit)

-- a symbol that is known: its bit, and its words wherever it stands on the right
pub record FoundAs (terminals nonterminals carrying : ℕ) (inherited synthesized : List ℕ) (s bit input other : ℕ) : Type 0 where
  pub known : symbol_known terminals nonterminals s ≡ true
  pub bits : (n : ℕ) → members bit n ≡ symbol_bit n (symbol_of s)
  pub inputs : (k : ℕ) → 1 ≤ k → input ≡ input_word k (count_at_value inherited s) (synthesized_at carrying synthesized s)
  pub others : (k : ℕ) → 1 ≤ k → other ≡ other_word k (count_at_value inherited s) (synthesized_at carrying synthesized s)

-- the right side of production p walked: the word of its symbols if they are known, with its row and the words at its positions
pub record RightPlaced (rows₀ : List ℕ) (p : ℕ) (b : List ℕ) (terminals nonterminals carrying : ℕ) (inherited synthesized rows inputs settled : List ℕ) (right : Option NonterminalSet) : Type 0 where
  pub kept : length rows ≡ rows_length
  pub is_known : is_some right ≡ symbols_known terminals nonterminals b 2
  pub copied : is_some right ≡ true → Copied rows₀ p b rows (length b)
  pub worded : IfSome right (λ word. RightWord b word.0)
  pub inputs_filled : is_some right ≡ true → (width : ℕ) → width + 2 ≡ length b → Filled (input_at carrying inherited synthesized b) width 0 inputs
  pub others_filled : is_some right ≡ true → (width : ℕ) → width + 2 ≡ length b → Filled (other_at carrying inherited synthesized b) width 65535 settled
