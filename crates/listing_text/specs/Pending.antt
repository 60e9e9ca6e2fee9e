-- A cursor into the program of a grammar: where it stands in a production's entry tests and scheme, and which lines of the listing are still to come.
use Rattle.std.specs.Prelude.{ℕ, suc, ◌+◌, ◌*◌, ◌≤◌, ◌<◌, ◌≡◌, List, [], ◌∷◌, ◌++◌, length, drop, ltb}
use Rattle.meaning.specs.Limits.{area_length}
use Rattle.meaning.specs.Base.{In}
use Rattle.meaning.specs.Grammar.{Rule, Condition, Grammar, production_at}
use Rattle.meaning.specs.Scheme.{Instruction, add, evaluate, expect, test, remove}
use Rattle.meaning.specs.Machine.{expects}
use Rattle.meaning.specs.Program.{scheme_words}
use Rattle.meaning.specs.Listing.{Text, lines_from}
use Rattle.theory_program.specs.Code.{CodeAt, RulesAt, ConditionsAt}
use Rattle.theory_program.specs.Proper.{ProperRule, ProperCondition, AllProper}
use Rattle.program_parts.specs.declared.Items.{Items as Kind}
use Rattle.program_parts.specs.declared.Items.TheVariants.{Rules, Conditions}
use Rattle.listing_text.specs.declared.Cursor.{Cursor}
use Rattle.listing_text.specs.Lines.{rules_of, conditions_of, position_at, code_lines}

-- ---- the items of an evaluate or a test that are left

pub data Items : Type 0 where
  rules : List (Rule ℕ) → Items
  conditions : List (Condition ℕ) → Items

abbrev pub instruction_of : Items → Instruction
instruction_of (rules rs) = evaluate rs
instruction_of (conditions cs) = test cs

abbrev pub kind_of : Items → Kind
kind_of (rules rs) = Rules
kind_of (conditions cs) = Conditions

abbrev pub item_count : Items → ℕ
item_count (rules rs) = length rs
item_count (conditions cs) = length cs

-- how many words they have
abbrev pub item_size : Items → ℕ
item_size (rules rs) = 2 * length rs
item_size (conditions cs) = 3 * length cs

abbrev pub item_lines : ℕ → ℕ → ℕ → Items → List Text
item_lines i n k (rules rs) = rules_of i (position_at (ltb k n) k) rs
item_lines i n k (conditions cs) = conditions_of i k cs

abbrev pub ItemsAt : List ℕ → ℕ → Items → Type 0
ItemsAt ws a (rules rs) = RulesAt ws a rs
ItemsAt ws a (conditions cs) = ConditionsAt ws a cs

abbrev pub ProperItems : Items → Type 0
ProperItems (rules rs) = (r : Rule ℕ) → In r rs → ProperRule r
ProperItems (conditions cs) = (c : Condition ℕ) → In c cs → ProperCondition c

-- ---- the cursor

-- a remove stands at the end, and nowhere else
abbrev pub Ends : List Instruction → Type 0
Ends [] = ⊥
Ends (add m ∷ is) = Ends is
Ends (evaluate rs ∷ is) = Ends is
Ends (expect x ∷ is) = Ends is
Ends (test cs ∷ is) = Ends is
Ends (remove m ∷ is) = is ≡ []

abbrev pub symbols : Grammar → Cursor → ℕ
symbols g c = length (production_at g c.production).right

-- the lines of the productions behind the one at hand
abbrev pub later : Grammar → Cursor → List Text
later g c = lines_from g (suc c.production) (drop (suc c.production) g.productions)

-- the instructions left of production i, where k of its symbols are passed
pub record Unread (g : Grammar) (i k : ℕ) (is : List Instruction) : Type 0 where
  pub listed : i < length g.productions
  pub proper : AllProper g is
  pub passed : k + expects is ≡ length (production_at g i).right
  pub ends : Ends is

-- in a production: items are left, and instructions behind them
pub record Inside (g : Grammar) (ws : List ℕ) (c : Cursor) (items : Items) (is : List Instruction) (ls : List Text) : Type 0 where
  pub unread : Unread g c.production c.passed is
  pub kind : c.items ≡ kind_of items
  pub count : c.left ≡ item_count items
  pub here : ItemsAt ws c.at items
  pub behind : CodeAt ws (c.at + item_size items) is
  pub proper_items : ProperItems items
  pub fits : c.at + item_size items + length (scheme_words is) ≤ area_length
  pub lines : ls ≡ item_lines c.production (symbols g c) c.passed items ++ (code_lines c.production (symbols g c) c.passed is ++ later g c)

-- `ls` are the lines still to come at c, in words that begin with the program of g
pub data Pending (g : Grammar) (ws : List ℕ) (c : Cursor) (ls : List Text) : Type 0 where
  none : c.production ≡ length g.productions → ls ≡ [] → Pending g ws c ls
  some : (items : Items) (is : List Instruction) → Inside g ws c items is ls → Pending g ws c ls
