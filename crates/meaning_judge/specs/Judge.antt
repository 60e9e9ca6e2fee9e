-- 02 (m): sheets from other tools. "Check a sheet against table and segment: accept exactly if it describes the segment's well evaluated tree, of depth at most 1,023, records in the order of (i), and nothing after it."
use Rattle.std.specs.Prelude.{ℕ, ◌≤◌, ◌<◌, ◌≡◌, ◌↔◌, Bool, true, false, List, length, eqb, ℤ}
use Rattle.meaning.specs.Limits.{depth_limit}
use Rattle.meaning.specs.Grammar.{Grammar, Leaf, leaves, TableBytes, TokenKinds, TokenValues}
use Rattle.meaning.specs.Table.{grammar_of}
use Rattle.meaning.specs.Tree.{Tree, TreeOf, value_of}
use Rattle.meaning.specs.Drawn.{depth}
use Rattle.meaning.specs.Calls.{tokens_from}
use Rattle.meaning.specs.PublicCalls.{Checked, usable, unusable, check}
use Rattle.meaning_sheet.specs.Sheet.{sheet_of, SheetBytes}

-- these bytes are the sheet of t, a tree of the segment us. A record counts tokens by four-byte unsigned numbers, so no sheet describes a segment of 4,294,967,296 tokens or more
pub record Describes (g : Grammar) (us : List Leaf) (bytes : SheetBytes) (t : Tree) : Type 0 where
  pub tree : TreeOf g us t
  pub shallow : depth t ≤ depth_limit
  pub counted : length us < 4294967296
  pub written : sheet_of t ≡ bytes

-- accepted with a value, or turned back with a number and what stands beside it
pub data JudgeAnswer : Type 0 where
  worth : ℤ → JudgeAnswer
  turned_back : ℕ → ℕ → JudgeAnswer

-- the answer for a segment under an accepted table: the root's value exactly where a tree is described; "Every sheet not accepted, as any for a segment without a tree, is turned back as 43"
pub record Settles (g : Grammar) (us : List Leaf) (bytes : SheetBytes) (a : JudgeAnswer) : Type 0 where
  pub accepts : (v : ℤ) → (a ≡ worth v) ↔ ((t : Tree) × Describes g us bytes t × (value_of g t ≡ v))
  pub refuses : ((t : Tree) → Describes g us bytes t → ⊥) → a ≡ turned_back 43 0

abbrev pub SettlesIf : Bool → Grammar → TokenKinds → TokenValues → SheetBytes → JudgeAnswer → Type 0
SettlesIf false g ks vs bytes a = a ≡ turned_back 38 0
SettlesIf true g ks vs bytes a = Settles g (leaves g (tokens_from ks vs)) bytes a

abbrev pub SettlesUnder : Checked → TokenKinds → TokenValues → SheetBytes → JudgeAnswer → Type 0
SettlesUnder (unusable n o) ks vs bytes a = a ≡ turned_back n o
SettlesUnder (usable s) ks vs bytes a = SettlesIf (eqb (length ks) (length vs)) (grammar_of s) ks vs bytes a

-- the call: any bytes for a table, any kinds and values, any bytes for a sheet. "43, after the table's refusals and 38"; one answer only: JudgeStatements.JudgedOnce
abbrev pub JudgedAs : TableBytes → TokenKinds → TokenValues → SheetBytes → JudgeAnswer → Type 0
JudgedAs bs ks vs bytes a = SettlesUnder (check bs) ks vs bytes a
