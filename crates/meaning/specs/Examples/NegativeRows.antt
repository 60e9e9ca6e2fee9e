-- What is not so: a selector that finds another value; and what is said of the tree while tokens are to come.
use Rattle.std.specs.Prelude.{ℕ, [], ◌∷◌, ℤ, pos, negsuc}
use Rattle.std.proofs.Common.{arith, ap}
use Rattle.meaning.specs.Scheme.{Instruction}
use Rattle.meaning.specs.Machine.{Config}
use Rattle.meaning.specs.Part.{PartOf}
use Rattle.meaning.specs.Selectors.{part_at, Finds, SelectorsFind}
use Rattle.meaning.specs.Examples.WordsAndTags.{occ, plain}
use Rattle.meaning.specs.Examples.SchemeRows.{wide}
use Rattle.meaning.specs.Examples.WalkRows.{wide_tree, wide_tree_lem}
use Rattle.meaning.specs.Examples.PartRows.{last_added}

abbrev pub number : ℤ → ℕ
number (pos n) = n
number (negsuc n) = n

-- the register of the attribute named, with another value
finds_other_value : Finds wide last_added 4 (occ 3 3) (pos 8) → ⊥
finds_other_value f = omega (arith, ap number f.held)

-- the tree is that of all the tokens, those to come too
of_tree_to_come : (c : Config) (i : Instruction) (s : SelectorsFind wide (plain (2 ∷ [])) (plain (0 ∷ 1 ∷ 2 ∷ [])) c i) → PartOf wide wide_tree (part_at s.node s.point s.below)
of_tree_to_come c i s = s.of_tree wide_tree wide_tree_lem
