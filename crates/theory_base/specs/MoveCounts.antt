-- The moves of a tree's walk, counted without naming them: how many it makes for the part that is opened after j tokens. (Walk of meaning has the moves themselves; WalkCounts proves that they are as many.)
use Rattle.std.specs.Prelude.{ℕ, suc, ◌+◌, Bool, true, false, not, ltb}
use Rattle.meaning.specs.Base.{is_empty}
use Rattle.meaning.specs.Grammar.{Grammar, nonterminal, production_at, symbol_at, inh, syn, added_for, conditions_at}
use Rattle.meaning.specs.Tree.{Tree, Forest, leaf, node, no_trees, tree_and, width, is_opened, is_left}

-- so many that all is opened
abbrev pub past_end : Tree → ℕ
past_end t = suc (width t)

abbrev pub one_if : Bool → ℕ
one_if true = 1
one_if false = 0

abbrev pub count_if : Bool → ℕ → ℕ
count_if true n = n
count_if false n = 0

abbrev mutual
  pub moves_of : Grammar → ℕ → ℕ → Tree → ℕ
  moves_of g j b (leaf t) = one_if (is_opened j b)
  moves_of g j b (node p vs f) = count_if (is_opened j b) (1 + moves_in g j b p 1 f)

  -- add, evaluate, the child's own, test; after the last child evaluate and remove
  pub moves_in : Grammar → ℕ → ℕ → ℕ → ℕ → Forest → ℕ
  moves_in g j b p k no_trees = one_if (ltb 0 (syn g (nonterminal (production_at g p).left))) + 1
  moves_in g j b p k (tree_and t f) =
      one_if (ltb 0 (added_for g (symbol_at (production_at g p) k)))
      + one_if (ltb 0 (inh g (symbol_at (production_at g p) k)))
      + moves_of g j b t
      + count_if (is_left j b t) (one_if (not (is_empty (conditions_at (production_at g p) k))) + moves_in g j (b + width t) p (suc k) f)
