-- A part of a tree walked so far, X to Y 0 X Y before its last Y; and what a selector finds there.
use Rattle.std.specs.Prelude.{ℕ, refl, List, [], ◌∷◌, ℤ, pos}
use Rattle.std.proofs.Common.{lit≤}
use Rattle.meaning.specs.Grammar.{Symbol, nonterminal, whole}
use Rattle.meaning.specs.Tree.{Tree, leaf, node, no_trees, tree_and}
use Rattle.meaning.specs.Part.{Open, Point, added, Ancestor, Part}
use Rattle.meaning.specs.Selectors.{part_at, Finds}
use Rattle.meaning.specs.Examples.WordsAndTags.{bare, occ}
use Rattle.meaning.specs.Examples.SchemeRows.{wide}

abbrev pub open_node : ℕ → List ℤ → List Tree → Open
open_node p vs ts = record { production = p; inherited = vs; children = ts }

abbrev pub waits_at : Open → Symbol → List Symbol → Ancestor
waits_at o x xs = record { node = o; symbol = x; ahead = xs }

abbrev pub X : Symbol
X = nonterminal 1

abbrev pub Y : Symbol
Y = nonterminal 2

abbrev pub y1 : Tree
y1 = node 3 (pos 7 ∷ pos 7 ∷ pos 8 ∷ []) (tree_and (leaf (bare 2)) no_trees)

abbrev pub x3 : Tree
x3 = node 2 (pos 7 ∷ pos 3 ∷ pos 7 ∷ []) (tree_and (leaf (bare 1)) no_trees)

-- the node of X with these left children, the latest first, at a point
abbrev pub in-X : List Tree → Point → Part
in-X ts pt = part_at (open_node 1 (pos 3 ∷ pos 4 ∷ []) ts) pt (waits_at (open_node 0 [] []) X [] ∷ waits_at (open_node whole [] []) (nonterminal 0) [] ∷ [])

-- before the last Y, its registers added
abbrev pub last_added : Part
last_added = in-X (x3 ∷ leaf (bare 0) ∷ y1 ∷ []) (added Y [])

-- what a selector finds
finds : Finds wide last_added 4 (occ 3 3) (pos 7)
finds = record { register = record { least = lit≤ tt; most = lit≤ tt; named = refl }; held = refl }
