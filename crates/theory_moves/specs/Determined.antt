-- The rules determine a node's values: a part that begins a tree's node has handed the next child that node's values, and once complete it is that node.
use Rattle.std.specs.Prelude.{ℕ, suc, ◌≡◌, List, [], ◌∷◌, length, drop, ℤ}
use Rattle.std.proofs.Common.{ap, subst}
use Rattle.meaning.specs.Grammar.{Grammar, Production, Symbol, terminal, production_at, symbol_at}
use Rattle.meaning.specs.Tree.{Tree, Forest, node, no_trees, child, inherited_of, WellEvaluated, WellEvaluateds}
use Rattle.meaning.specs.Rules.{WellFormed}
use Rattle.meaning.specs.Part.{forest_onto, Handed}
use Rattle.theory_base.specs.Values.{drop_head, tree_of}
use Rattle.theory_base.specs.Grow.{handed_one}
use Rattle.theory_complete.specs.NodeInProgressGood.{Evaluated, inherited_in, handed}
use Rattle.theory_complete.specs.SubtreeComplete.{node_evaluated}
use Rattle.theory_complete.specs.Unique.{values_determined}
use Rattle.theory_moves.specs.ChildrenToCome.{onto_firsts, ahead_evaluated, no_child, no_symbol}

pub same_handed : (g : Grammar) (p : Production) (vs : List ℤ) (ts : List Tree) (f : Forest) (x : Symbol) (xs : List Symbol) (is : List ℤ) → Evaluated g p vs (forest_onto ts f)
    → drop (length ts) p.right ≡ x ∷ xs → Handed g p (inherited_in g p vs) ts x is → inherited_of g (child (forest_onto ts f) (length ts)) ≡ is
same_handed g p vs ts f x xs is e d k =
    let at = drop_head (length ts) p.right x (terminal 0) xs d in
    let own = inherited_in g p vs in
    let given = inherited_of g (child (forest_onto ts f) (length ts)) in
    let y = symbol_at p (suc (length ts)) in
    let tree : Handed g p own ts y given = subst (λ z. Handed g p own z y given) (onto_firsts ts f) (handed g p vs (forest_onto ts f) e (length ts) at.0) in
    handed_one g p e.formed own ts x xs given is d (subst (λ z. Handed g p own ts z given) at.1 tree) k

-- a node with a complete part's production, inherited values and children is that part's
pub same_node : (g : Grammar) → WellFormed g → (p : ℕ) (vs ws : List ℤ) (ts : List Tree) (f : Forest) (x y : Symbol) → WellEvaluated g (node p vs (forest_onto ts f)) x
    → WellEvaluated g (tree_of p ws ts) y → inherited_of g (node p vs (forest_onto ts f)) ≡ inherited_of g (tree_of p ws ts) → node p vs (forest_onto ts f) ≡ tree_of p ws ts
same_node g formed p vs ws ts f x y w v i =
    let none : drop (length ts) (production_at g p).right ≡ [] = no_symbol g (drop (length ts) (production_at g p).right) (ahead_evaluated g ts no_trees (production_at g p).right v.1) in
    let ended : f ≡ no_trees = no_child g f (subst (WellEvaluateds g f) none (ahead_evaluated g ts f (production_at g p).right w.1)) in
    let forest : forest_onto ts f ≡ forest_onto ts no_trees = ap (forest_onto ts) ended in
    let vals : vs ≡ ws = values_determined g (production_at g p) vs ws (forest_onto ts f) (forest_onto ts no_trees) (node_evaluated g formed x p vs (forest_onto ts f) w) (node_evaluated g formed y p ws (forest_onto ts no_trees) v) i forest in
    λ j. node p (vals j) (forest j)
