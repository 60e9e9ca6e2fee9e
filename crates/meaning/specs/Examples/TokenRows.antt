-- 02 (e), runs: tokens that carry a value. Two grammars, a scheme, 31 at a read, 38 after 33 and 34, and what is drawn where a token is waited at.
use Rattle.std.specs.Prelude.{ℕ, ◌≡◌, refl, true, false, List, [], ◌∷◌, map, ℤ, pos}
use Rattle.std.proofs.Math.Option.{none}
use Rattle.meaning.specs.Grammar.{Symbol, terminal, nonterminal, Function, const, copy, binary, sum, diff, maxi, Rule, range, atmost, Leaf, Production, Grammar}
use Rattle.meaning.specs.Scheme.{evaluate, expect, test, remove, scheme}
use Rattle.meaning.specs.Tree.{Tree, leaf, node, no_trees, tree_and, picture}
use Rattle.meaning.specs.Calls.{Called, refused, tokens_from, open_of, feed_of}
use Rattle.meaning.specs.Examples.WordsAndTags.{words, p0, p2, p3, occ, rule, bare}
use Rattle.meaning.specs.Examples.CallRows.{m, state, stacks, called, used}

-- a call with values, on what the call before left
abbrev pub then_bring : Grammar → List ℕ → List ℤ → Called → Called
then_bring g ks vs c = feed_of g c.state c.stacks ks vs

-- a leaf with a value
abbrev pub carrier : ℕ → ℤ → Leaf
carrier k v = record { kind = k; values = v ∷ [] }

abbrev pub r : ℕ → Function ℕ → Rule ℕ
r t f = record { target = t; function = f }

-- ---- kinds and values, one beside the other

beside : tokens_from (0 ∷ 1 ∷ []) (pos 7 ∷ pos 8 ∷ []) ≡ record { kind = 0; value = pos 7 } ∷ record { kind = 1; value = pos 8 } ∷ []
beside = refl

-- ---- the grammar of words and tags, where a word carries its length and n adds the lengths up

abbrev pub lengths1 : Production
lengths1 = record { left = 1; right = terminal 0 ∷ nonterminal 1 ∷ []; rules = rule (occ 2 1) (copy (occ 0 1)) ∷ rule (occ 0 2) (binary sum (occ 1 1) (occ 2 2)) ∷ []; conditions = [] }

abbrev pub lengths : Grammar
lengths = record { terminals = 3; counts = words.counts; carrying = 0 ∷ []; start = 0; result = 1; productions = p0 ∷ lengths1 ∷ p2 ∷ p3 ∷ [] }

unfoldable pub lengths_table : List ℕ
lengths_table =
    1 ∷ 0 ∷ 4 ∷ 3 ∷ 2 ∷ 0 ∷ 1
    ∷ 2 ∷ 0 ∷ 2 ∷ 0 ∷ 1
    ∷ 2 ∷ 0 ∷ 2 ∷ 1 ∷ 1
    ∷ 6 ∷ 0 ∷ 1 ∷ 0
    ∷ 3 ∷ 0 ∷ 3 ∷ 0 ∷ 1 ∷ 129
    ∷ 4 ∷ 0 ∷ 7 ∷ 1 ∷ 1 ∷ 0 ∷ 0 ∷ 0 ∷ 0 ∷ 0
    ∷ 4 ∷ 0 ∷ 5 ∷ 0 ∷ 1 ∷ 1 ∷ 1 ∷ 2
    ∷ 3 ∷ 0 ∷ 4 ∷ 1 ∷ 2 ∷ 0 ∷ 129
    ∷ 4 ∷ 0 ∷ 5 ∷ 2 ∷ 1 ∷ 1 ∷ 0 ∷ 1
    ∷ 4 ∷ 0 ∷ 7 ∷ 0 ∷ 2 ∷ 2 ∷ 1 ∷ 1 ∷ 2 ∷ 2
    ∷ 3 ∷ 0 ∷ 6 ∷ 1 ∷ 4 ∷ 1 ∷ 129 ∷ 2 ∷ 129
    ∷ 4 ∷ 0 ∷ 9 ∷ 2 ∷ 1 ∷ 7 ∷ 0 ∷ 1 ∷ 0 ∷ 0 ∷ 0 ∷ 1
    ∷ 4 ∷ 0 ∷ 5 ∷ 4 ∷ 1 ∷ 1 ∷ 0 ∷ 1
    ∷ 4 ∷ 0 ∷ 7 ∷ 0 ∷ 2 ∷ 2 ∷ 2 ∷ 2 ∷ 4 ∷ 2
    ∷ 5 ∷ 0 ∷ 11 ∷ 0 ∷ 0 ∷ 1 ∷ 0 ∷ 0 ∷ 0 ∷ 0 ∷ 0 ∷ 0 ∷ 0 ∷ 2
    ∷ 3 ∷ 0 ∷ 2 ∷ 1 ∷ 0
    ∷ 4 ∷ 0 ∷ 7 ∷ 0 ∷ 2 ∷ 0 ∷ 0 ∷ 0 ∷ 0 ∷ 0
    ∷ []

-- ---- S to a b, both with a value: a from 0 to 9 and at most b; n is a - b

abbrev pub pair0 : Production
pair0 = record { left = 0; right = terminal 0 ∷ terminal 1 ∷ []; rules = rule (occ 0 1) (binary diff (occ 1 1) (occ 2 1)) ∷ []; conditions = atmost (occ 1 1) (occ 2 1) none ∷ range (occ 1 1) (pos 0) (pos 9) ∷ [] }

abbrev pub pair : Grammar
pair = record { terminals = 2; counts = record { inherited = 0; synthesized = 1 } ∷ []; carrying = 0 ∷ 1 ∷ []; start = 0; result = 1; productions = pair0 ∷ [] }

pair_scheme : scheme pair pair0 ≡ expect (terminal 0) ∷ test (range 1 (pos 0) (pos 9) ∷ []) ∷ expect (terminal 1) ∷ test (atmost 2 1 none ∷ []) ∷ evaluate (r 3 (binary diff 2 1) ∷ []) ∷ remove 2 ∷ []
pair_scheme = refl

-- 31 at a read, after 21; 20 before both
second_read : map (λ k. (then_bring pair (0 ∷ k ∷ []) (pos 4 ∷ pos 4 ∷ []) (open_of pair (used 2 2))).answer) (0 ∷ 1 ∷ 2 ∷ []) ≡ refused 21 1 ∷ refused 31 1 ∷ refused 20 1 ∷ []
second_read = refl

-- nothing is written, the token is not read; the predict stands
first_read : then_bring pair (0 ∷ []) (pos 4 ∷ []) (open_of pair (used 1 2)) ≡ called (refused 31 0) (state false 0 1 1 2) (stacks (m ∷ []) (32768 ∷ 0 ∷ []))
first_read = refl

-- ---- 38: after 33 and 34

unfit_before_uneven : map (λ o. (feed_of pair (state o 0 0 0 0) (used 1 1) (0 ∷ []) []).answer) (true ∷ false ∷ []) ≡ refused 34 0 ∷ refused 33 0 ∷ []
unfit_before_uneven = refl

-- ---- X to a X b X, or c. X has inherited d, synthesized n; a and b carry values, c does not

abbrev pub X : Symbol
X = nonterminal 1

abbrev pub mixed1 : Production
mixed1 = record { left = 1; right = terminal 0 ∷ X ∷ terminal 1 ∷ X ∷ []; rules = rule (occ 2 1) (binary sum (occ 0 1) (occ 1 1)) ∷ rule (occ 4 1) (binary diff (occ 2 2) (occ 3 1)) ∷ rule (occ 0 2) (binary maxi (occ 4 2) (occ 1 1)) ∷ []; conditions = atmost (occ 1 1) (occ 3 1) none ∷ [] }

abbrev pub mixed : Grammar
mixed = record {
  terminals = 3;
  counts = record { inherited = 0; synthesized = 1 } ∷ record { inherited = 1; synthesized = 1 } ∷ [];
  carrying = 0 ∷ 1 ∷ [];
  start = 0;
  result = 1;
  productions =
      record { left = 0; right = X ∷ []; rules = rule (occ 1 1) (const (pos 100)) ∷ rule (occ 0 1) (copy (occ 1 2)) ∷ []; conditions = [] }
      ∷ mixed1
      ∷ record { left = 1; right = terminal 2 ∷ []; rules = rule (occ 0 2) (copy (occ 0 1)) ∷ []; conditions = [] }
      ∷ [];
}

-- a 7 c b 20 c: d of the first X is 107, its n too; d of the second is 87, its n too; n is 87
abbrev pub mixed_tree : Tree
mixed_tree =
    node 0 (pos 87 ∷ []) (tree_and
    (node 1 (pos 100 ∷ pos 87 ∷ []) (tree_and (leaf (carrier 0 (pos 7))) (tree_and
    (node 2 (pos 107 ∷ pos 107 ∷ []) (tree_and (leaf (bare 2)) no_trees)) (tree_and (leaf (carrier 1 (pos 20))) (tree_and
    (node 2 (pos 87 ∷ pos 87 ∷ []) (tree_and (leaf (bare 2)) no_trees)) no_trees)))))
    no_trees)

-- drawn where b is waited at: a's register and the first X's n, none for b
drawn_at_b : picture mixed 2 mixed_tree ≡ record { places = 258 ∷ 0 ∷ 32768 ∷ []; registers = pos 107 ∷ pos 7 ∷ pos 100 ∷ m ∷ m ∷ [] }
drawn_at_b = refl
