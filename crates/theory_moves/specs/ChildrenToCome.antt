-- The children that a node in progress still has to come, of a well evaluated tree's node.
use Rattle.std.specs.Prelude.{suc, ◌+◌, ◌≡◌, refl, List, [], ◌∷◌, length, drop}
use Rattle.std.proofs.Common.{arith, sym, ap, ap₂, ◌∙◌, subst}
use Rattle.meaning.specs.Grammar.{Grammar, Symbol, Leaf}
use Rattle.meaning.specs.Tree.{Tree, Forest, no_trees, tree_and, child, WellEvaluated, WellEvaluateds}
use Rattle.meaning.specs.Part.{forest_onto}
use Rattle.theory_base.specs.Values.{child_onto, drop_head}
use Rattle.theory_complete.specs.NodeInProgressGood.{firsts}
use Rattle.theory_complete.specs.PredictsOfWalk.{Foreseens}

pub ahead_child : (ts : List Tree) (u : Tree) (f : Forest) → child (forest_onto ts (tree_and u f)) (length ts) ≡ u
ahead_child ts u f = let e : length ts ≡ length ts + 0 = omega arith in ap (child (forest_onto ts (tree_and u f))) e ∙ child_onto ts (tree_and u f) 0

pub onto_firsts : (ts : List Tree) (f : Forest) → firsts (length ts) (forest_onto ts f) ≡ ts
onto_firsts [] f = refl
onto_firsts (t ∷ ts) f = ap₂ ◌∷◌ (ahead_child ts t f) (onto_firsts ts (tree_and t f))

pub ahead_evaluated : (g : Grammar) (ts : List Tree) (f : Forest) (xs : List Symbol) → WellEvaluateds g (forest_onto ts f) xs → WellEvaluateds g f (drop (length ts) xs)
ahead_evaluated g [] f xs w = w
ahead_evaluated g (t ∷ ts) f xs w = go (drop (length ts) xs) refl (ahead_evaluated g ts (tree_and t f) xs w)
  where
    go : (ys : List Symbol) → drop (length ts) xs ≡ ys → WellEvaluateds g (tree_and t f) ys → WellEvaluateds g f (drop (suc (length ts)) xs)
    go [] e v = absurd v
    go (y ∷ ys) e v = subst (WellEvaluateds g f) (sym (drop_head (length ts) xs y y ys e).2) v.1

pub ahead_foreseen : (g : Grammar) (us : List Leaf) (ts : List Tree) (f : Forest) → Foreseens g us (forest_onto ts f) → Foreseens g us f
ahead_foreseen g us [] f o = o
ahead_foreseen g us (t ∷ ts) f o = (ahead_foreseen g us ts (tree_and t f) o).1

-- the next child
pub record Next (g : Grammar) (f : Forest) (x : Symbol) : Type 0 where
  pub tree : Tree
  pub after : Forest
  pub is_next : f ≡ tree_and tree after
  pub evaluated : WellEvaluated g tree x

pub next_child : (g : Grammar) (f : Forest) (x : Symbol) (xs : List Symbol) → WellEvaluateds g f (x ∷ xs) → Next g f x
next_child g no_trees x xs w = absurd w
next_child g (tree_and t f) x xs w = record { tree = t; after = f; is_next = refl; evaluated = w.0 }

pub no_child : (g : Grammar) (f : Forest) → WellEvaluateds g f [] → f ≡ no_trees
no_child g no_trees w = refl
no_child g (tree_and t f) w = absurd w

pub no_symbol : (g : Grammar) (xs : List Symbol) → WellEvaluateds g no_trees xs → xs ≡ []
no_symbol g [] w = refl
no_symbol g (x ∷ xs) w = absurd w
