-- The node of a tree that stands on the ancestors of a part, and what comes after it.
use Rattle.std.specs.Prelude.{ℕ, ◌+◌, ◌≡◌, List, [], ◌∷◌, ◌++◌, length, drop, ℤ}
use Rattle.std.proofs.Common.{sym, ap, ◌∙◌, subst, append_assoc, append-nil}
use Rattle.meaning.specs.Grammar.{Grammar, Symbol, nonterminal, att, production_at, whole, Leaf}
use Rattle.meaning.specs.Tree.{Tree, Forest, node, no_trees, tree_and, yield, yields, child, inherited_of, WellEvaluated, WellEvaluateds}
use Rattle.meaning.specs.Rules.{WellFormed}
use Rattle.meaning.specs.Part.{Ancestor, yields_of, yield_below, forest_onto, rooted, children_of, node_on, BeginBelow}
use Rattle.theory_base.specs.WellFormed.{whole_counts, evaluable_whole}
use Rattle.theory_base.specs.Values.{yields_onto}
use Rattle.theory_complete.specs.NodeInProgressGood.{Evaluated}
use Rattle.theory_complete.specs.PredictsOfWalk.{Foreseen, Foreseens}
use Rattle.theory_complete.specs.SubtreeComplete.{node_evaluated}
use Rattle.theory_moves.specs.ChildrenToCome.{ahead_child, ahead_evaluated, ahead_foreseen}

-- u is t's node on these ancestors, each of which begins t's node there; rest is the tokens after u's
abbrev pub Along : Grammar → Tree → List Ancestor → Tree → List Leaf → Type 0
Along g t [] u rest = record { is_root : u ≡ rooted t; is_rest : rest ≡ [] }
Along g t (a ∷ bs) u rest = record {
  values : List ℤ;
  after : Forest;
  later : List Leaf;
  parent : Along g t bs (node a.node.production values (forest_onto a.node.children (tree_and u after))) later;
  inherited : inherited_of g (node a.node.production values (forest_onto a.node.children (tree_and u after))) ≡ a.node.inherited;
  is_rest : rest ≡ yields after ++ later;
}

pub along_node : (g : Grammar) (t : Tree) (bs : List Ancestor) (u : Tree) (rest : List Leaf) → Along g t bs u rest → node_on t bs ≡ u
along_node g t [] u rest h = sym h.is_root
along_node g t (a ∷ bs) u rest h =
    ap (λ n. child (children_of n) (length a.node.children)) (along_node g t bs _ h.later h.parent) ∙ ahead_child a.node.children u h.after

pub along_below : (g : Grammar) (t : Tree) (bs : List Ancestor) (u : Tree) (rest : List Leaf) → Along g t bs u rest → BeginBelow g t bs
along_below g t [] u rest h = tt
along_below g t (a ∷ bs) u rest h =
    let e = along_node g t bs _ h.later h.parent in
    (record { values = h.values; ahead = tree_and u h.after; is_node = e; is_inherited = ap (inherited_of g) e ∙ h.inherited }, along_below g t bs _ h.later h.parent)

-- the tokens before it, its own, the tokens after it
pub along_yield : (g : Grammar) (t : Tree) (bs : List Ancestor) (u : Tree) (rest : List Leaf) → Along g t bs u rest → yield t ≡ yield_below bs ++ (yield u ++ rest)
along_yield g t [] u rest h = rw (h.is_root, h.is_rest) (sym (append-nil (yield t ++ []) ∙ append-nil (yield t)))
along_yield g t (a ∷ bs) u rest h =
    let ts : List Tree = a.node.children in
    let own : yields (forest_onto ts (tree_and u h.after)) ++ h.later ≡ yields_of ts ++ (yield u ++ rest) =
    ap (λ z. z ++ h.later) (yields_onto ts (tree_and u h.after)) ∙ (append_assoc (yields_of ts) (yield u ++ yields h.after) h.later ∙ (ap (λ z. yields_of ts ++ z) (append_assoc (yield u) (yields h.after) h.later) ∙ ap (λ z. yields_of ts ++ (yield u ++ z)) (sym h.is_rest))) in
    along_yield g t bs _ h.later h.parent ∙ (ap (λ z. yield_below bs ++ z) own ∙ sym (append_assoc (yield_below bs) (yields_of ts) (yield u ++ rest)))

-- ---- what is known of it

-- a node of a well evaluated tree, or the whole segment's on top of it, each of whose predicts finds the node's production
pub record Sits (g : Grammar) (p : ℕ) (vs : List ℤ) (f : Forest) (rest : List Leaf) : Type 0 where
  pub evaluated : Evaluated g (production_at g p) vs f
  pub foreseen : Foreseens g rest f

-- the child at hand of such a node
record Child (g : Grammar) (u : Tree) (rest : List Leaf) : Type 0 where
  symbol : Symbol
  evaluated : WellEvaluated g u symbol
  foreseen : Foreseen g rest u

child_sits : (g : Grammar) (p : ℕ) (vs : List ℤ) (ts : List Tree) (u : Tree) (f : Forest) (later : List Leaf) → Sits g p vs (forest_onto ts (tree_and u f)) later → Child g u (yields f ++ later)
child_sits g p vs ts u f later s = go (drop (length ts) (production_at g p).right) (ahead_evaluated g ts (tree_and u f) (production_at g p).right s.evaluated.children)
  where
    go : (xs : List Symbol) → WellEvaluateds g (tree_and u f) xs → Child g u (yields f ++ later)
    go [] w = absurd w
    go (x ∷ xs) w = record { symbol = x; evaluated = w.0; foreseen = (ahead_foreseen g later ts (tree_and u f) s.foreseen).0 }

-- of the tree, and of each node on the way
module _ (g : Grammar) (formed : WellFormed g) (t : Tree) (w : WellEvaluated g t (nonterminal g.start)) (o : Foreseen g [] t) where
  root_sits : (p : ℕ) (vs : List ℤ) (f : Forest) (rest : List Leaf) → node p vs f ≡ rooted t → rest ≡ [] → Sits g p vs f rest
  root_sits p vs f rest e r =
      let a : p ≡ whole = cc in
      let b : vs ≡ [] = cc in
      let c : f ≡ tree_and t no_trees = cc in
      let size : 0 ≡ att g (nonterminal 255) = sym (ap (λ k. k.inherited + k.synthesized) (whole_counts g formed)) in
      rw (a, b, c, r) (record { evaluated = record { formed = evaluable_whole g formed; children = (w, tt); size = size; ranges = tt; rules = tt; conditions = tt }; foreseen = (o, tt) })

  pub along_sits : (bs : List Ancestor) (p : ℕ) (vs : List ℤ) (f : Forest) (rest : List Leaf) → Along g t bs (node p vs f) rest → Sits g p vs f rest
  along_sits [] p vs f rest h = root_sits p vs f rest h.is_root h.is_rest
  along_sits (a ∷ bs) p vs f rest h =
      let k = child_sits g a.node.production h.values a.node.children (node p vs f) h.after h.later (along_sits bs _ _ _ h.later h.parent) in
      record { evaluated = node_evaluated g formed k.symbol p vs f k.evaluated; foreseen = (subst (λ z. Foreseen g z (node p vs f)) (sym h.is_rest) k.foreseen).1 }

  -- below the whole segment's it is well evaluated
  pub along_evaluated : (a : Ancestor) (bs : List Ancestor) (u : Tree) (rest : List Leaf) → Along g t (a ∷ bs) u rest → (x : Symbol) × WellEvaluated g u x
  along_evaluated a bs u rest h =
      let k = child_sits g a.node.production h.values a.node.children u h.after h.later (along_sits bs _ _ _ h.later h.parent) in
      (k.symbol, k.evaluated)
