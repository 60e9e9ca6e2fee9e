-- The picture and the walk of a tree of the grammar of words and tags, at each stop, beside what the machine shows.
use Rattle.std.specs.Prelude.{ℕ, ◌≡◌, refl, [], ◌∷◌, reverse, length, take, pos}
use Rattle.std.proofs.Common.{lit<}
use Rattle.meaning.specs.Grammar.{TokenKinds}
use Rattle.meaning.specs.Tree.{Tree, leaf, node, no_trees, tree_and, picture, value_of, TreeOf}
use Rattle.meaning.specs.Walk.{walk, walk_to}
use Rattle.meaning.specs.Examples.WordsAndTags.{words, bare, plain, RunState, after_feed_lem, lent}

abbrev pub tree : Tree
tree =
    node 0 (pos 2 ∷ []) (tree_and
    (node 1 (pos 0 ∷ pos 2 ∷ []) (tree_and (leaf (bare 0)) (tree_and
    (node 2 (pos 0 ∷ pos 1 ∷ []) (tree_and (leaf (bare 1)) (tree_and
    (node 1 (pos 1 ∷ pos 1 ∷ []) (tree_and (leaf (bare 0)) (tree_and (node 3 (pos 1 ∷ pos 0 ∷ []) no_trees) no_trees))) (tree_and (leaf (bare 2)) (tree_and
    (node 3 (pos 0 ∷ pos 0 ∷ []) no_trees) no_trees)))))
    no_trees))) no_trees)

abbrev pub segment : TokenKinds
segment = 0 ∷ 1 ∷ 0 ∷ 2 ∷ []

drawn : ℕ → RunState
drawn j = record { number = 0; tokens = j; moves = length (walk_to j (walk words tree)); registers = (picture words j tree).registers; places = reverse (picture words j tree).places }

at0 : after_feed_lem (lent 9 9) (take 0 segment) ≡ drawn 0
unfolding drawn
at0 = refl

at1 : after_feed_lem (lent 9 9) (take 1 segment) ≡ drawn 1
unfolding drawn
at1 = refl

at2 : after_feed_lem (lent 9 9) (take 2 segment) ≡ drawn 2
unfolding drawn
at2 = refl

at3 : after_feed_lem (lent 9 9) (take 3 segment) ≡ drawn 3
unfolding drawn
at3 = refl

at4 : after_feed_lem (lent 9 9) (take 4 segment) ≡ drawn 4
unfolding drawn
at4 = refl

-- the tree is the segment's: it is well evaluated, and its value is 2
pub its_tree : TreeOf words (plain segment) tree
its_tree = record {
  evaluated = (
    record { listed = lit< tt; symbol = refl; size = refl; ranges = tt; rules = (refl, (refl, tt)); conditions = tt },
    (
      (
        record { listed = lit< tt; symbol = refl; size = refl; ranges = tt; rules = (refl, (refl, tt)); conditions = tt },
        (
          (refl, tt),
          (
            (
              record { listed = lit< tt; symbol = refl; size = refl; ranges = tt; rules = (refl, (refl, (refl, tt))); conditions = tt },
              (
                (refl, tt),
                (
                  (
                    record { listed = lit< tt; symbol = refl; size = refl; ranges = tt; rules = (refl, (refl, tt)); conditions = tt },
                    (
                      (refl, tt),
                      ((record { listed = lit< tt; symbol = refl; size = refl; ranges = tt; rules = (refl, tt); conditions = tt }, tt), tt),
                    ),
                  ),
                  (
                    (refl, tt),
                    ((record { listed = lit< tt; symbol = refl; size = refl; ranges = tt; rules = (refl, tt); conditions = tt }, tt), tt),
                  ),
                ),
              ),
            ),
            tt,
          ),
        ),
      ),
      tt,
    ),
  );
  read = refl;
}

its_value : value_of words tree ≡ pos 2
its_value = refl
