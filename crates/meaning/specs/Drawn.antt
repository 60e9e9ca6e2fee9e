-- What 01 draws from a segment's tree: whether its walk fits what is lent, and the record and the stacks after j tokens and after the end.
use Rattle.std.specs.Prelude.{ℕ, suc, ◌+◌, ◌≤◌, max, Bool, true, false, not, List, length}
use Rattle.meaning.specs.Grammar.{Grammar, added_for, syn, nonterminal, production_at, symbol_at}
use Rattle.meaning.specs.Value.{mark}
use Rattle.meaning.specs.Tree.{Tree, Forest, leaf, node, no_trees, tree_and, values, yield, Picture, picture, width}
use Rattle.meaning.specs.Walk.{Act, walk, walk_to}
use Rattle.meaning.specs.Machine.{Lent, moves_limit, tokens_limit}
use Rattle.meaning.specs.Calls.{Record, outer, status_of, Stacks, lent_of, lay}

-- ---- "its walk fits the lent stacks and it keeps to the limits"

abbrev mutual
  -- the most registers that stand at once in the walk of a tree whose own registers are the topmost of `base`; a token's own come with its read
  pub registers_for : Grammar → ℕ → Tree → ℕ
  registers_for g base (leaf u) = base + length (values (leaf u))
  registers_for g base (node p vs f) = registers_in g p 1 base f

  pub registers_in : Grammar → ℕ → ℕ → ℕ → Forest → ℕ
  registers_in g p k base no_trees = base
  registers_in g p k base (tree_and t f) = max (registers_for g (base + added_for g (symbol_at (production_at g p) k)) t) (registers_in g p (suc k) (base + syn g (symbol_at (production_at g p) k)) f)

abbrev mutual
  -- the most places that stand at once on the one below
  pub depth : Tree → ℕ
  depth (leaf u) = 0
  depth (node p vs f) = suc (depths f)

  pub depths : Forest → ℕ
  depths no_trees = 0
  depths (tree_and t f) = max (depth t) (depths f)

pub record WalkFits (g : Grammar) (lent : Lent) (t : Tree) : Type 0 where
  pub registers : registers_for g (syn g (nonterminal g.start)) t ≤ lent.max_registers
  pub places : suc (depth t) ≤ lent.max_places
  pub tokens : length (yield t) ≤ tokens_limit
  pub moves : length (walk g t) ≤ moves_limit

-- ---- after j tokens, or after the end

-- 01: "after j tokens, all before the predict or read that needs the next token or the end"; "After the end it is closed, with all moves."
abbrev pub drawn_moves : Grammar → Tree → ℕ → Bool → List Act
drawn_moves g t j true = walk g t
drawn_moves g t j false = walk_to j (walk g t)

-- after the end every node is opened, and left
abbrev pub drawn_picture : Grammar → Tree → ℕ → Bool → Picture
drawn_picture g t j true = picture g (suc (width t)) t
drawn_picture g t j false = picture g j t

-- 01: "The record drawn is open, with j tokens, these moves and the picture's heights; above them all is cleared."
abbrev pub drawn_record : Grammar → Tree → ℕ → Bool → Record
drawn_record g t j is_over = record { status = status_of (not is_over); kind = outer; tokens = j; moves = length (drawn_moves g t j is_over); register_height = length (drawn_picture g t j is_over).registers; place_height = length (drawn_picture g t j is_over).places }

-- on the stacks that the opening was lent
abbrev pub drawn_stacks : Grammar → Tree → ℕ → Bool → Stacks → Stacks
drawn_stacks g t j is_over m = record {
  registers = lay (lent_of m).max_registers mark (drawn_picture g t j is_over).registers m.registers;
  places = lay (lent_of m).max_places 0 (drawn_picture g t j is_over).places m.places;
}
