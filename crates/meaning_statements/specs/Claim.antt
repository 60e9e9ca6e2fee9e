-- Demand 3 as one claim over lists of calls: picture, moves, selectors and returns together. The proof is in theory_demands.
use Rattle.std.specs.Prelude.{ℕ, ◌≡◌, Bool, true, List, [], ◌∷◌, ◌++◌, length, T}
use Rattle.meaning.specs.Base.{all}
use Rattle.meaning.specs.Grammar.{Grammar, Symbol, Token, Leaf, leaves, TableBytes, ProgramBuilder}
use Rattle.meaning.specs.Judgement.{Accepted}
use Rattle.meaning.specs.Scheme.{Instruction, expect}
use Rattle.meaning.specs.Machine.{Frame, Config, Lent, opening, waits}
use Rattle.meaning.specs.Tree.{Tree, TreeOf, is_leaf_of}
use Rattle.meaning.specs.Walk.{Act, Makes}
use Rattle.meaning.specs.Part.{frame}
use Rattle.meaning.specs.Selectors.{SelectorsFind}
use Rattle.meaning.specs.Calls.{Record, is_open, Stacks, lent_of, record_of, lay_all}
use Rattle.meaning.specs.Drawn.{WalkFits, drawn_record, drawn_stacks, drawn_moves}
use Rattle.meaning_statements.specs.Statements.{History, PartWalked, Returned}

-- the moves `first` from the opening lead to a configuration that has read a first part of these tokens; what holds there
pub record Passed (g : Grammar) (lent : Lent) (tokens : List Leaf) (first : List Act) : Type 0 where
  pub config : Config
  pub read : List Leaf
  pub to_come : List Leaf
  pub is_split : tokens ≡ read ++ to_come
  pub made : Makes g lent tokens (opening g) first to_come config
  -- every selector of the next instruction finds the attribute it names
  pub finds : (p : ℕ) (i : Instruction) (is : List Instruction) (fs : List Frame) → config.frames ≡ frame p (i ∷ is) ∷ fs → SelectorsFind g read to_come config i
  -- a part entered here and left leaves the registers below its results as they are here
  pub returns : (p : ℕ) (x : Symbol) (is : List Instruction) (fs : List Frame) (z : Config) → config.frames ≡ frame p (expect x ∷ is) ∷ fs → PartWalked g lent to_come config z → Returned g x config z

-- the tokens that may still come, as the grammar sees them: none after a finish
abbrev pub MayCome : Bool → List Leaf → Type 0
MayCome is_over us = is_over ≡ true → us ≡ []

-- a list of calls that fed ts, beside the tree of a segment that begins with them
pub record Pictured (g : Grammar) (m₀ : Stacks) (t : Tree) (ts : List Token) (is_over : Bool) (r : Record) (m : Stacks) (moves : List Act) (unread : List Leaf) : Type 0 where
  pub is_record : r ≡ drawn_record g t (length ts) is_over
  pub is_stacks : m ≡ drawn_stacks g t (length ts) is_over m₀
  pub is_walk : moves ≡ drawn_moves g t (length ts) is_over
  pub is_read : unread ≡ []

-- what holds after a list of calls that fed the tokens ts
pub record ListOfCalls (g : Grammar) (m₀ : Stacks) (ts : List Token) (is_over : Bool) (r : Record) (m : Stacks) : Type 0 where
  -- the moves that its calls made, whatever is still to come: record and stacks are those of the configuration that they lead to
  pub moves : List Act
  pub unread : List Leaf
  pub config : Config
  pub made : (us : List Leaf) → MayCome is_over us → Makes g (lent_of m₀) (leaves g ts ++ us) (opening g) moves (unread ++ us) config
  pub counted : length moves ≡ r.moves
  pub is_record : r ≡ record_of (is_open r) config
  pub is_stacks : m ≡ lay_all g config m₀
  -- while the record is open, all tokens fed are read and everything that needs no next token is done
  pub all_read : is_open r ≡ true → (unread ≡ []) × T (waits config.frames)
  -- "registers, places and record are exactly the picture that 01 draws from the tree"; the moves are its walk's
  pub pictured : (us : List Leaf) → MayCome is_over us → (t : Tree) → TreeOf g (leaves g ts ++ us) t → WalkFits g (lent_of m₀) t → Pictured g m₀ t ts is_over r m moves unread
  -- "at each move, whatever the tokens, every selector finds the attribute it names; when a part is left, the registers below its results are those it was entered with".
  -- The tokens still to come have values in range: those of a caller are signed 32-bit numbers, by their type
  pub each : (us : List Leaf) → MayCome is_over us → T (all (is_leaf_of g) us) → (first later : List Act) → moves ≡ first ++ later → Passed g (lent_of m₀) (leaves g ts ++ us) first

-- Demand 3: "For every list of calls from an opening, registers, places and record are exactly the picture that 01 draws from the tree;
-- at each move, whatever the tokens, every selector finds the attribute it names; when a part is left, the registers below its results are those it was entered with."
abbrev pub EveryListOfCalls : Type 0
EveryListOfCalls =
    (program : ProgramBuilder) (bs : TableBytes) (g : Grammar) (m₀ : Stacks) (ts : List Token) (is_over : Bool) (r : Record) (m : Stacks)
    → Accepted bs g → History program bs m₀ ts is_over r m → ListOfCalls g m₀ ts is_over r m
