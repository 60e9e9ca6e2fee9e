-- 02 (i): tree sheets. "one record per node in the order of entering: production, tokens before, tokens covered as four-byte unsigned numbers, then the attribute values in their order as eight-byte two's complement, all big-endian. Tokens get no record."
use Rattle.std.specs.Prelude.{ℕ, ◌+◌, ◌-◌, ◌/◌, List, [], ◌∷◌, ◌++◌, ℤ, pos, negsuc}
use Rattle.meaning.specs.Layout.{four_bytes}
use Rattle.meaning.specs.Tree.{Tree, Forest, leaf, node, no_trees, tree_and, width}

-- a tree sheet: its records, one behind the other. 02 (i): "the sheet's old bytes"
abbrev pub SheetBytes : Type 0
SheetBytes = List ℕ

-- a number of 64 bits in two's complement
abbrev pub complement : ℤ → ℕ
complement (pos n) = n
complement (negsuc n) = 18446744073709551615 - n

abbrev pub eight_bytes : ℤ → SheetBytes
eight_bytes v = four_bytes (complement v / 4294967296) ++ four_bytes (complement v)

abbrev pub value_bytes : List ℤ → SheetBytes
value_bytes [] = []
value_bytes (v ∷ vs) = eight_bytes v ++ value_bytes vs

-- a node's record: its production, the tokens before and covered, the values of its left side's attributes
abbrev pub record_bytes : ℕ → ℕ → ℕ → List ℤ → SheetBytes
record_bytes p before covered vs = four_bytes p ++ (four_bytes before ++ (four_bytes covered ++ value_bytes vs))

-- the records of a tree before whose yield b tokens lie: a node before its children, children from the left
abbrev mutual
  pub sheet : ℕ → Tree → SheetBytes
  sheet b (leaf u) = []
  sheet b (node p vs f) = record_bytes p b (width (node p vs f)) vs ++ sheets b f

  pub sheets : ℕ → Forest → SheetBytes
  sheets b no_trees = []
  sheets b (tree_and t f) = sheet b t ++ sheets (b + width t) f

-- the root is the start symbol's node; the whole segment has no record
abbrev pub sheet_of : Tree → SheetBytes
sheet_of t = sheet 0 t
