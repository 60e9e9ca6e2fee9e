-- The definitions on sheets from other tools, computed on the grammar of words and tags: one word.
use Rattle.std.specs.Prelude.{ℕ, ◌≡◌, refl, ◌⊎◌, List, [], ◌∷◌, ◌++◌, length, get_or, pos}
use Rattle.std.proofs.Common.{arith, ap, inl, inr, lit<}
use Rattle.meaning.specs.Grammar.{Grammar, Leaf, leaves}
use Rattle.meaning.specs.Calls.{tokens_from}
use Rattle.meaning.specs.Tree.{Tree, leaf, node, no_trees, tree_and, TreeOf, value_of}
use Rattle.meaning.specs.Drawn.{depth}
use Rattle.meaning.specs.Examples.WordsAndTags.{words}
use Rattle.meaning.specs.Examples.TableRows.{bytes}
use Rattle.meaning_judge.specs.Judge.{Describes, JudgeAnswer, worth, turned_back, Settles, JudgedAs}
use Rattle.meaning_judge.specs.JudgeStatements.{AtFault}

abbrev pub one_word : List Leaf
one_word = leaves words (tokens_from (0 ∷ []) (pos 5 ∷ []))

abbrev pub one_tree : Tree
one_tree = node 0 (pos 1 ∷ []) (tree_and (node 1 (pos 0 ∷ pos 1 ∷ []) (tree_and (leaf (record { kind = 0; values = [] })) (tree_and (node 3 (pos 0 ∷ pos 0 ∷ []) no_trees) no_trees))) no_trees)

-- S to L: production 0, 0 tokens before, 1 covered, n = 1; L to word L: production 1, 0 before, 1 covered, d = 0, n = 1; L to nothing: production 3, 1 before, 0 covered, d = 0, n = 0
abbrev pub one_sheet : List ℕ
one_sheet =
    0 ∷ 0 ∷ 0 ∷ 0 ∷ 0 ∷ 0 ∷ 0 ∷ 0 ∷ 0 ∷ 0 ∷ 0 ∷ 1 ∷ 0 ∷ 0 ∷ 0 ∷ 0 ∷ 0 ∷ 0 ∷ 0 ∷ 1
    ∷ 0 ∷ 0 ∷ 0 ∷ 1 ∷ 0 ∷ 0 ∷ 0 ∷ 0 ∷ 0 ∷ 0 ∷ 0 ∷ 1 ∷ 0 ∷ 0 ∷ 0 ∷ 0 ∷ 0 ∷ 0 ∷ 0 ∷ 0 ∷ 0 ∷ 0 ∷ 0 ∷ 0 ∷ 0 ∷ 0 ∷ 0 ∷ 1
    ∷ 0 ∷ 0 ∷ 0 ∷ 3 ∷ 0 ∷ 0 ∷ 0 ∷ 1 ∷ 0 ∷ 0 ∷ 0 ∷ 0 ∷ 0 ∷ 0 ∷ 0 ∷ 0 ∷ 0 ∷ 0 ∷ 0 ∷ 0 ∷ 0 ∷ 0 ∷ 0 ∷ 0 ∷ 0 ∷ 0 ∷ 0 ∷ 0 ∷ []

pub one_tree_lem : TreeOf words one_word one_tree
one_tree_lem = record {
  evaluated = (
    record { listed = lit< tt; symbol = refl; size = refl; ranges = tt; rules = (refl, (refl, tt)); conditions = tt },
    (
      (
        record { listed = lit< tt; symbol = refl; size = refl; ranges = tt; rules = (refl, (refl, tt)); conditions = tt },
        (
          (refl, tt),
          ((record { listed = lit< tt; symbol = refl; size = refl; ranges = tt; rules = (refl, tt); conditions = tt }, tt), tt),
        ),
      ),
      tt,
    ),
  );
  read = refl;
}

pub described : Describes words one_word one_sheet one_tree
described = record { tree = one_tree_lem; shallow = lit< tt; counted = lit< tt; written = refl }

its_value : value_of words one_tree ≡ pos 1
its_value = refl

-- a byte after the records, and a byte too few
pub trailing : Describes words one_word (one_sheet ++ (0 ∷ [])) one_tree → ⊥
trailing h = omega (arith, ap length h.written)

-- the root's value 2 in place of 1, which its rule does not give
pub other_value : (bs : List ℕ) → get_or bs 19 0 ≡ 2 → Describes words one_word bs one_tree → ⊥
other_value bs e h = omega (arith, e, ap (λ l. get_or l 19 0) h.written)

-- tokens before: 0 in place of 1 in the last record
pub other_before : (bs : List ℕ) → get_or bs 55 0 ≡ 0 → Describes words one_word bs one_tree → ⊥
other_before bs e h = omega (arith, e, ap (λ l. get_or l 55 0) h.written)

-- another segment
other_segment : (bs : List ℕ) → Describes words [] bs one_tree → ⊥
other_segment bs h = omega (arith, ap length h.tree.read)

-- "of depth at most 1,023"
too_deep_lem : (g : Grammar) (us : List Leaf) (bs : List ℕ) (t : Tree) → depth t ≡ 1024 → Describes g us bs t → ⊥
too_deep_lem g us bs t e h = omega (arith, e, h.shallow)

-- tokens are counted in four bytes
too_many : (g : Grammar) (us : List Leaf) (bs : List ℕ) (t : Tree) → length us ≡ 4294967296 → Describes g us bs t → ⊥
too_many g us bs t e h = omega (arith, e, h.counted)

-- ---- the order: the table's refusals, 38, 43

table_first : JudgedAs [] (0 ∷ []) [] one_sheet (turned_back 3 0)
table_first = refl

uneven : JudgedAs bytes (0 ∷ []) [] one_sheet (turned_back 38 0)
unfolding bytes
uneven = refl

uneven_alone : (a : JudgeAnswer) → JudgedAs bytes (0 ∷ []) [] one_sheet a → a ≡ turned_back 38 0
unfolding bytes
uneven_alone a h = h

table_alone : (a : JudgeAnswer) → JudgedAs [] (0 ∷ []) [] one_sheet a → a ≡ turned_back 3 0
table_alone a h = h

-- an answer for the segment: no other value than the tree's, and no 43
not_two : JudgedAs bytes (0 ∷ []) (pos 5 ∷ []) one_sheet (worth (pos 2)) → ⊥
unfolding bytes
not_two h =
    let z : worth (pos 2) ≡ worth (pos 1) = (h.accepts (pos 1)).1 (one_tree, described, refl) in
    let y : ◌≡◌ {A = ℕ} 0 1 = cc in omega arith

not_turned_back : JudgedAs bytes (0 ∷ []) (pos 5 ∷ []) one_sheet (turned_back 43 0) → ⊥
unfolding bytes
not_turned_back h =
    let z : turned_back 43 0 ≡ worth (pos 1) = (h.accepts (pos 1)).1 (one_tree, described, refl) in
    let y : ◌≡◌ {A = ℕ} 0 1 = cc in omega arith

-- where nothing is described, 43 with 0
nothing_described : (g : Grammar) (us : List Leaf) (bs : List ℕ) (a : JudgeAnswer) → ((t : Tree) → Describes g us bs t → ⊥) → Settles g us bs a → a ≡ turned_back 43 0
nothing_described g us bs a f h = h.refuses f

-- ---- refusals that say that the segment is at fault, and those that say that stacks or a limit are short

at_fault : AtFault 20 × AtFault 21 × AtFault 22 × AtFault 23 × AtFault 24
at_fault = ((lit< tt, lit< tt), (lit< tt, lit< tt), (lit< tt, lit< tt), (lit< tt, lit< tt), (lit< tt, lit< tt))

not_at_fault : (k : ℕ) → (k ≡ 31) ⊎ ((k ≡ 32) ⊎ (k ≡ 35)) → AtFault k → ⊥
not_at_fault k (inl e) f = omega (arith, e, f.1)
not_at_fault k (inr (inl e)) f = omega (arith, e, f.1)
not_at_fault k (inr (inr e)) f = omega (arith, e, f.1)
