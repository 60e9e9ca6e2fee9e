-- A tree with conditions and several attributes: X to Y 0 X Y.
use Rattle.std.specs.Prelude.{ℕ, refl, List, [], ◌∷◌, pos, negsuc}
use Rattle.std.proofs.Common.{lit<}
use Rattle.meaning.specs.Tree.{Tree, leaf, node, no_trees, tree_and, TreeOf}
use Rattle.meaning.specs.Examples.WordsAndTags.{bare, plain}
use Rattle.meaning.specs.Examples.SchemeRows.{wide}

abbrev pub wide_tree : Tree
wide_tree =
    node 0 (pos 7 ∷ []) (tree_and
    (node 1 (pos 3 ∷ pos 4 ∷ pos 7 ∷ []) (tree_and
    (node 3 (pos 7 ∷ pos 7 ∷ pos 8 ∷ []) (tree_and (leaf (bare 2)) no_trees)) (tree_and (leaf (bare 0)) (tree_and
    (node 2 (pos 7 ∷ pos 3 ∷ pos 7 ∷ []) (tree_and (leaf (bare 1)) no_trees)) (tree_and
    (node 3 (negsuc 0 ∷ negsuc 0 ∷ pos 0 ∷ []) (tree_and (leaf (bare 2)) no_trees)) no_trees)))))
    no_trees)

abbrev pub wide_segment : List ℕ
wide_segment = 2 ∷ 0 ∷ 1 ∷ 2 ∷ []

pub wide_tree_lem : TreeOf wide (plain wide_segment) wide_tree
wide_tree_lem = record {
  evaluated = (
    record { listed = lit< tt; symbol = refl; size = refl; ranges = tt; rules = (refl, (refl, (refl, tt))); conditions = tt },
    (
      (
        record { listed = lit< tt; symbol = refl; size = refl; ranges = tt; rules = (refl, (refl, (refl, (refl, (refl, tt))))); conditions = tt },
        (
          (record { listed = lit< tt; symbol = refl; size = refl; ranges = tt; rules = (refl, (refl, tt)); conditions = tt }, ((refl, tt), tt)),
          (
            (refl, tt),
            (
              (record { listed = lit< tt; symbol = refl; size = refl; ranges = tt; rules = (refl, tt); conditions = tt }, ((refl, tt), tt)),
              ((record { listed = lit< tt; symbol = refl; size = refl; ranges = tt; rules = (refl, (refl, tt)); conditions = tt }, ((refl, tt), tt)), tt),
            ),
          ),
        ),
      ),
      tt,
    ),
  );
  read = refl;
}
