-- What is written of a production: the counts at its positions, and its row.
use Rattle.std.specs.Prelude.{ℕ, zero, suc, ◌+◌, ◌<◌, ◌≡◌, List, map, get_or, length, drop}
use Rattle.meaning.specs.Grammar.{nonterminal_base}
use Rattle.meaning.specs.Base.{any}
use Rattle.meaning.specs.Table.{byte, symbol_of}
use Rattle.outline.specs.Images.{row_start, rows_length}
use Rattle.set_words.specs.Views.{members, symbol_bit}

-- the byte of the symbol at a position of a production, by its body
abbrev pub symbol_byte : List ℕ → ℕ → ℕ
symbol_byte b zero = nonterminal_base + byte b 0
symbol_byte b (suc k) = byte b (k + 2)

-- the counts at the positions of a production, written from its body, where f gives the count of a symbol's byte
pub record Written (f : ℕ → ℕ) (b places : List ℕ) : Type 0 where
  pub each : (k : ℕ) → k + 1 < length b → get_or places k 0 ≡ f (symbol_byte b k)

-- k bytes of a production's body are copied to its row, and the rows before stay
pub record Copied (rows₀ : List ℕ) (p : ℕ) (b rows : List ℕ) (k : ℕ) : Type 0 where
  pub before : (i : ℕ) → i < row_start p → get_or rows i 0 ≡ get_or rows₀ i 0
  pub row : (j : ℕ) → j < k → get_or rows (row_start p + j) 0 ≡ byte b j
  pub kept : length rows ≡ rows_length

-- the word of a production's right side, by its body
abbrev pub RightWord : List ℕ → ℕ → Type 0
RightWord b word = (n : ℕ) → members word n ≡ any (symbol_bit n) (map symbol_of (drop 2 b))
