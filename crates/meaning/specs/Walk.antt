-- The walk of a tree as a sequence of moves. 01: "The walk makes, after opening, the moves for the tree's nodes from left to right; after j tokens, all before the predict or read that needs the next token or the end."
use Rattle.std.specs.Prelude.{ℕ, zero, suc, ◌≡◌, List, [], ◌∷◌, ◌++◌}
use Rattle.meaning.specs.Grammar.{terminal, nonterminal, Leaf, Grammar, production_at}
use Rattle.meaning.specs.Scheme.{Instruction, add, evaluate, expect, test, remove, scheme}
use Rattle.meaning.specs.Machine.{Frame, Config, Lent, moved, next, look_at, unread}
use Rattle.meaning.specs.Tree.{Tree, Forest, leaf, node, no_trees, tree_and}

-- one move by name: a predict of a production, the read of a token of some kind, or an instruction of a production's scheme (an add, evaluate, test or remove)
pub data Act : Type 0 where
  predicts : ℕ → Act
  reads : ℕ → Act
  performs : ℕ → Instruction → Act

-- ---- the walk

-- the instructions before the next expect, then what follows
abbrev pub before_expect : ℕ → List Instruction → List Act → List Act
before_expect p [] ws = ws
before_expect p (expect x ∷ is) ws = ws
before_expect p (add n ∷ is) ws = performs p (add n) ∷ before_expect p is ws
before_expect p (evaluate rs ∷ is) ws = performs p (evaluate rs) ∷ before_expect p is ws
before_expect p (test cs ∷ is) ws = performs p (test cs) ∷ before_expect p is ws
before_expect p (remove n ∷ is) ws = performs p (remove n) ∷ before_expect p is ws

abbrev pub after_expect : List Instruction → List Instruction
after_expect [] = []
after_expect (expect x ∷ is) = is
after_expect (add n ∷ is) = after_expect is
after_expect (evaluate rs ∷ is) = after_expect is
after_expect (test cs ∷ is) = after_expect is
after_expect (remove n ∷ is) = after_expect is

-- a node's predict, then its scheme, with each child's walk where the child is expected
abbrev mutual
  pub walk : Grammar → Tree → List Act
  walk g (leaf u) = reads u.kind ∷ []
  walk g (node p vs f) = predicts p ∷ walk_on g p (scheme g (production_at g p)) f

  pub walk_on : Grammar → ℕ → List Instruction → Forest → List Act
  walk_on g p is no_trees = before_expect p is []
  walk_on g p is (tree_and t f) = before_expect p is (walk g t ++ walk_on g p (after_expect is) f)

-- what of it is made after j tokens
abbrev pub walk_to : ℕ → List Act → List Act
walk_to j [] = []
walk_to j (performs p i ∷ ws) = performs p i ∷ walk_to j ws
walk_to zero (predicts p ∷ ws) = []
walk_to (suc j) (predicts p ∷ ws) = predicts p ∷ walk_to (suc j) ws
walk_to zero (reads t ∷ ws) = []
walk_to (suc j) (reads t ∷ ws) = reads t ∷ walk_to j ws

-- ---- what the machine does, by the same names

abbrev pub top_production : List Frame → ℕ
top_production [] = 0
top_production (f ∷ fs) = f.production

-- the move that the instruction at hand, of production p, makes to d
abbrev pub act_by : ℕ → Instruction → Config → Act
act_by p (expect (terminal t)) d = reads t
act_by p (expect (nonterminal n)) d = predicts (top_production d.frames)
act_by p (add n) d = performs p (add n)
act_by p (evaluate rs) d = performs p (evaluate rs)
act_by p (test cs) d = performs p (test cs)
act_by p (remove n) d = performs p (remove n)

-- 01: "Moves, each counted as one". The moves ws lead from c, us still to come, to d, vs still to come
pub data Makes (g : Grammar) (lent : Lent) (us : List Leaf) (c : Config) : List Act → List Leaf → Config → Type 0 where
  nothing : Makes g lent us c [] us c
  and_then : {ws : List Act} {vs : List Leaf} {d : Config} (p : ℕ) (i : Instruction) (is : List Instruction) (fs : List Frame) (e : Config)
      → Makes g lent us c ws vs d → d.frames ≡ record { production = p; rest = i ∷ is } ∷ fs → next g lent (look_at vs) d ≡ moved e
      → Makes g lent us c (ws ++ (act_by p i e ∷ [])) (unread d e vs) e
