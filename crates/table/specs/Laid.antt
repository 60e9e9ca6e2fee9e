-- What is read so far, as lists of numbers: the rows and offsets of the productions.
use Rattle.std.specs.Prelude.{ℕ, ◌≤◌, ◌<◌, ◌≡◌, List, [], ◌∷◌, get_or, length}
use Rattle.meaning.specs.Limits.{symbols_limit}
use Rattle.meaning.specs.Grammar.{terminal}
use Rattle.meaning.specs.Table.{State, Entry, symbol_of}
use Rattle.outline.specs.Images.{left_at, size_at, byte_at}
use Rattle.table_fields.specs.Reads.{state_of}
use Rattle.table_counts.specs.Counted.{header_in, counts_up_to, offsets_up_to}

-- the state after the tag 6 fields, which name these terminals, the latest first
abbrev pub named : List ℕ → List ℕ → List ℕ → ℕ → List ℕ → State
named t inherited synthesized n ws = state_of (header_in t) (counts_up_to inherited synthesized n) (offsets_up_to n) ws [] 0 0

-- the row and the offset of a production that is read
pub record RowOf (rows offsets : List ℕ) (p : ℕ) (e : Entry) : Type 0 where
  pub left : left_at rows p ≡ e.left
  pub size : size_at rows p ≡ length e.right
  pub symbols : (k : ℕ) → k < length e.right → symbol_of (byte_at rows p k) ≡ get_or e.right k (terminal 0)
  pub short : length e.right ≤ symbols_limit
  pub offset : get_or offsets p 0 ≡ e.offset

-- what holds of each element of a list, the latest first, and its number
abbrev pub Numbered : {A : Type 0} → (ℕ → A → Type 0) → List A → Type 0
Numbered P [] = Unit {0}
Numbered P (x ∷ xs) = P (length xs) x × Numbered P xs

-- the rows of productions, the latest first
abbrev pub Laid : List ℕ → List ℕ → List Entry → Type 0
Laid rows offsets es = Numbered (RowOf rows offsets) es
