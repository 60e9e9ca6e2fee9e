-- What the functions that go through a sheet ask, and what their answers mean.
use Rattle.std.specs.Prelude.{◌≡◌, ℕ, ◌-◌, ◌<◌, ◌≤◌, Bool, cond, Option, Some, None, List, length, ℤ, ◌==◌, slice_index, slice_index_or}
use Rattle.meaning.specs.Limits.{positions_limit, productions_limit}
use Rattle.meaning.specs.Grammar.{Grammar, terminal, Leaf, leaves, production_at, nonterminal_base}
use Rattle.meaning.specs.Rules.{Known}
use Rattle.meaning.specs.Layout.{Bytes}
use Rattle.meaning.specs.Table.{symbol_of}
use Rattle.meaning.specs.Calls.{tokens_from}
use Rattle.outline.specs.Outline.{grammar_in, CountsOf, Productions}
use Rattle.outline.specs.Images.{HasRow, row_count}
use Rattle.program_words.specs.Fields.{fields_from, stretch_end, fields_at}
use Rattle.theory_judge.specs.Described.{Described, DescribedAll}
use Rattle.theory_judge.specs.Passing as Passing
use Rattle.theory_judge.specs.Passing.{Only, Marked, Upto}
use Rattle.program_block_words.specs.Fields.{Listed}
use Rattle.judge_nodes.specs.head.Heads.{HeadIs}
use Rattle.judge_nodes.specs.declared.parts.Subtree.{Subtree}
use Rattle.judge_nodes.specs.declared.parts.Ends.{Ends}
use Rattle.judge_nodes.specs.declared.parts.Node.{Node}
use Rattle.judge_nodes.specs.declared.parts.Begun.{Begun}
use Rattle.judge_nodes.specs.declared.parts.Begun.TheVariants.{Token, Inside}

-- the bytes of the rules and conditions of production p, where the rows hold all productions
abbrev pub fields_of : List ℕ → List ℕ → List ℕ → ℕ → List ℕ
fields_of table rows offsets p = fields_at table (fields_from rows offsets p) (stretch_end table offsets (row_count rows) p)

-- the productions and counts of an accepted table, where the rows hold all productions and nothing else; kinds and values of equal number, and a sheet of bytes
pub record Book (table rows inherited synthesized offsets ks : List ℕ) (vs : List ℤ) (sheet : List ℕ) : Type 0 where
  pub is_table : Bytes table
  pub productions : Productions table rows offsets (row_count rows)
  pub counts : CountsOf inherited synthesized (grammar_in table)
  pub even : length ks ≡ length vs
  pub few : length ks < 4294967296
  pub is_bytes : Bytes sheet

-- the segment as the grammar sees it
abbrev pub leaves_in : Grammar → List ℕ → List ℤ → List Leaf
leaves_in g ks vs = leaves g (tokens_from ks vs)

-- ---- answers

-- these ends and no others, or none
unfoldable pub EndsOrNone : (ℕ → ℕ → Type 0) → Option Ends → Type 0
EndsOrNone P (Some r) = Only P r.next r.end
EndsOrNone P None = Passing.None P

-- ---- a token

abbrev pub TokenEnds : List ℕ → List ℤ → ℕ → ℕ → ℕ → Option Ends → Type 0
TokenEnds ks vs at from k r = (g : Grammar) (sheet : List ℕ) (d : ℕ) → length ks ≡ length vs → EndsOrNone (Described g (leaves_in g ks vs) sheet at from (terminal k) d) r

-- ---- a node, and the children of a production

pub record NodeReady (table rows inherited synthesized offsets ks : List ℕ) (vs : List ℤ) (sheet : List ℕ) (from symbol : ℕ) : Type 0 where
  pub book : Book table rows inherited synthesized offsets ks vs sheet
  pub known : Known (grammar_in table) (symbol_of symbol)
  pub low : from ≤ length ks

abbrev pub NodeEnds : List ℕ → List ℕ → List ℕ → List ℕ → List ℕ → List ℕ → List ℤ → List ℕ → ℕ → ℕ → ℕ → ℕ → Option Ends → Type 0
NodeEnds table rows inherited synthesized offsets ks vs sheet at from symbol d r =
    (x : NodeReady table rows inherited synthesized offsets ks vs sheet from symbol) → EndsOrNone (Described (grammar_in table) (leaves_in (grammar_in table) ks vs) sheet at from (symbol_of symbol) d) r

pub record ChildrenReady (table rows inherited synthesized offsets ks : List ℕ) (vs : List ℤ) (sheet : List ℕ) (p from : ℕ) : Type 0 where
  pub book : Book table rows inherited synthesized offsets ks vs sheet
  pub listed : p < length (grammar_in table).productions
  pub low : from ≤ length ks

-- the marks of the children behind that of the node itself
unfoldable pub EndsAndMarks : Grammar → List ℕ → List ℤ → List ℕ → ℕ → ℕ → ℕ → ℕ → List ℕ → List ℕ → Option Ends → Type 0
EndsAndMarks g ks vs sheet p at from d old new (Some r) =
    Only (DescribedAll g (leaves_in g ks vs) sheet at from (production_at g p).right d) r.next r.end × Marked g (leaves_in g ks vs) sheet vs at from (production_at g p).right d new × (slice_index new 0 ≡ slice_index old 0) × (length new ≡ positions_limit)
EndsAndMarks g ks vs sheet p at from d old new None = Passing.None (DescribedAll g (leaves_in g ks vs) sheet at from (production_at g p).right d)

abbrev pub ChildrenEnds : List ℕ → List ℕ → List ℕ → List ℕ → List ℕ → List ℕ → List ℤ → List ℕ → ℕ → ℕ → ℕ → ℕ → List ℕ → List ℕ → Option Ends → Type 0
ChildrenEnds table rows inherited synthesized offsets ks vs sheet p at from d old new r =
    (x : ChildrenReady table rows inherited synthesized offsets ks vs sheet p from) → EndsAndMarks (grammar_in table) ks vs sheet p at from d old new r

-- ---- before the children

-- the record of the tree is a node of its symbol, and the node is what it says
pub record NodeIs (rows inherited synthesized sheet : List ℕ) (tree : Subtree) (node : Node) : Type 0 where
  pub big : nonterminal_base ≤ tree.symbol
  pub deep : 0 < tree.depth
  pub is : HeadIs rows inherited synthesized sheet tree.at tree.from (tree.symbol - nonterminal_base) node.production node.behind node.covered
  pub from : node.from ≡ tree.from
  pub less : node.depth ≡ tree.depth - 1

abbrev pub Begins : List ℕ → List ℕ → List ℕ → List ℕ → List ℤ → List ℕ → Subtree → Option Begun → Type 0
Begins rows inherited synthesized ks vs sheet tree None = (table offsets : List ℕ) → NodeEnds table rows inherited synthesized offsets ks vs sheet tree.at tree.from tree.symbol tree.depth None
Begins rows inherited synthesized ks vs sheet tree (Some (Token r)) = (table offsets : List ℕ) → NodeEnds table rows inherited synthesized offsets ks vs sheet tree.at tree.from tree.symbol tree.depth (Some r)
Begins rows inherited synthesized ks vs sheet tree (Some (Inside node)) = NodeIs rows inherited synthesized sheet tree node

-- ---- behind them

-- the rules and conditions of production p can be held against values
pub record Holdable (table rows offsets : List ℕ) (p : ℕ) : Type 0 where
  pub few : p < productions_limit
  pub from : fields_from rows offsets p ≤ stretch_end table offsets (row_count rows) p
  pub to : stretch_end table offsets (row_count rows) p ≤ length table
  pub listed : Listed (fields_of table rows offsets p)
  pub row : HasRow rows p

-- by whether they hold
abbrev pub closing : Bool → Node → Ends → Option Ends
closing h node r = cond (r.end - node.from == node.covered) (cond h (Some r) None) None

-- ---- children one after the other

-- k symbols of production p are passed: the marks behind the first are theirs, and the first stays
pub record ChildrenPassed (table rows inherited synthesized offsets ks : List ℕ) (vs : List ℤ) (sheet : List ℕ) (p at from d : ℕ) (marks₀ : List ℕ) (k next end : ℕ) (marks : List ℕ) : Type 0 where
  pub long : length marks ≡ positions_limit
  pub own : slice_index_or marks 0 0 ≡ slice_index marks₀ 0
  pub upto : (x : ChildrenReady table rows inherited synthesized offsets ks vs sheet p from) → Upto (grammar_in table) (leaves_in (grammar_in table) ks vs) sheet vs at from (production_at (grammar_in table) p).right d k next end marks
