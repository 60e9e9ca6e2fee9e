-- What is not so: parts, selectors, returns, stretches and schemes that are wrong in one thing. The theorems say that every run has these; the rows keep what is said from saying less.
use Rattle.std.specs.Prelude.{ℕ, ◌+◌, ◌≡◌, refl, List, [], ◌∷◌, ◌++◌, get_or, length, ℤ, pos}
use Rattle.std.proofs.Common.{arith, sym, ap, inl, inr, length-append, lit<, lit≤}
use Rattle.std.proofs.Math.Option.{none}
use Rattle.meaning.specs.Grammar.{Symbol, terminal, nonterminal, const, copy, binary, sum, range, atmost, whole}
use Rattle.meaning.specs.Scheme.{Instruction, evaluate, remove, test}
use Rattle.meaning.specs.Machine.{Config}
use Rattle.meaning.specs.Tree.{Tree, leaf, node, no_trees, tree_and, values, child}
use Rattle.meaning.specs.Part.{fresh, added, valued, left, closing, Ancestor, config, children_of, Handed, Results, Tested, Stands, Good, PartOf}
use Rattle.meaning.specs.Selectors.{part_at, Found}
use Rattle.meaning_statements.specs.CallStatements.{Handles}
use Rattle.meaning_statements.specs.Statements.{Returned}
use Rattle.meaning.specs.Examples.WordsAndTags.{occ, rule, bare}
use Rattle.meaning.specs.Examples.SchemeRows.{wide, wide1}
use Rattle.meaning.specs.Examples.WalkRows.{wide_tree}
use Rattle.meaning.specs.Examples.CallRows.{m}
use Rattle.meaning.specs.Examples.PartRows.{open_node, waits_at, X, Y, y1, x3, in-X}
use Rattle.meaning_rows.specs.PartRows.{y4}
use Rattle.meaning.specs.Examples.NegativeRows.{number}

-- ---- telling values apart

abbrev at : ℕ → List ℤ → ℕ
at k vs = number (get_or vs k (pos 0))

abbrev symbol_number : Symbol → ℕ
symbol_number (terminal t) = t
symbol_number (nonterminal n) = n

-- ---- what a selector finds

-- the node of X on its ancestors, with left children or inherited values that have too few attributes: what is drawn are other registers
abbrev under-X : List Ancestor
under-X = waits_at (open_node 0 [] []) X [] ∷ waits_at (open_node whole [] []) (nonterminal 0) [] ∷ []

abbrev short : Tree
short = node 3 (pos 7 ∷ []) (tree_and (leaf (bare 2)) no_trees)

-- at a test: register 3 is not the left side's first attribute
found_not_at_test : Found wide (open_node 1 (pos 3 ∷ pos 4 ∷ []) (short ∷ [])) under-X (left (terminal 0 ∷ X ∷ Y ∷ [])) → ⊥
found_not_at_test f = omega (arith, ap number (f (atmost (occ 0 1) (occ 1 2) none) (inl refl)).0.held)

found_not_at_evaluation : Found wide (open_node 1 (pos 3 ∷ []) []) under-X (added Y (terminal 0 ∷ X ∷ Y ∷ [])) → ⊥
found_not_at_evaluation f = omega (arith, ap number (f (rule (occ 1 1) (binary sum (occ 0 1) (occ 0 2))) (inl refl)).0.1.held)

found_not_at_results : Found wide (open_node 1 (pos 3 ∷ pos 4 ∷ []) (y4 ∷ x3 ∷ leaf (bare 0) ∷ short ∷ [])) under-X (fresh []) → ⊥
found_not_at_results f = omega (arith, ap number (f (rule (occ 0 3) (binary sum (occ 4 2) (occ 1 3))) (inl refl)).0.1.held)

-- at a predict: the second entry condition's attribute is not there
found_not_at_predict : Found wide (open_node 0 [] []) (waits_at (open_node whole [] []) (nonterminal 0) [] ∷ []) (valued X (pos 3 ∷ []) []) → ⊥
found_not_at_predict f = omega (arith, ap number (f 1 (lit< tt) refl (range (occ 0 2) (pos 0) (pos 5)) (inl refl)).held)

-- ---- what a rule and a condition say of a part

-- Y's attribute is 3 + 4
handed_other : Handed wide wide1 (pos 3 ∷ pos 4 ∷ []) [] Y (pos 8 ∷ []) → ⊥
handed_other h = omega (arith, ap number (h.rules (rule (occ 1 1) (binary sum (occ 0 1) (occ 0 2))) (inl refl) refl))

-- X's result is -1 + 8
results_other : Results wide wide1 (pos 3 ∷ pos 4 ∷ []) (y4 ∷ x3 ∷ leaf (bare 0) ∷ y1 ∷ []) (pos 8 ∷ []) → ⊥
results_other h = omega (arith, ap number (h.rules (rule (occ 0 3) (binary sum (occ 4 2) (occ 1 3))) (inr (inl refl)) refl))

-- 9 is not from 0 to 5
tested_not : Tested wide1 (pos 3 ∷ pos 9 ∷ []) [] 1 → ⊥
tested_not t = t (range (occ 0 2) (pos 0) (pos 5)) (inr (inl refl)) (lit< tt)

-- ---- parts that are not good

good_not_tested : Good wide (part_at (open_node 1 (pos 3 ∷ pos 9 ∷ []) []) (fresh (Y ∷ terminal 0 ∷ X ∷ Y ∷ [])) under-X) → ⊥
good_not_tested q = tested_not q.node.1.1

-- a left child whose own rule does not hold, and one whose inherited value is not what the parent's rule says
good_not_child : Good wide (in-X (node 3 (pos 7 ∷ pos 8 ∷ pos 8 ∷ []) (tree_and (leaf (bare 2)) no_trees) ∷ []) (left (terminal 0 ∷ X ∷ Y ∷ []))) → ⊥
good_not_child q = omega (arith, ap number q.node.0.lefts.1.0.rules.0)

good_not_rule : Good wide (in-X (node 3 (pos 8 ∷ pos 8 ∷ pos 9 ∷ []) (tree_and (leaf (bare 2)) no_trees) ∷ []) (left (terminal 0 ∷ X ∷ Y ∷ []))) → ⊥
good_not_rule q = omega (arith, ap number (q.node.0.rules (rule (occ 1 1) (binary sum (occ 0 1) (occ 0 2))) (inl refl) (lit≤ tt) (lit≤ tt)))

-- inherited values other than the ancestor hands down, an ancestor that waits at another symbol, a production that stands on nothing
stands_other_value : Stands wide 1 (pos 3 ∷ pos 5 ∷ []) under-X → ⊥
stands_other_value s = omega (arith, ap number (s.2.1.2.rules (rule (occ 1 2) (const (pos 4))) (inr (inl refl)) refl))

stands_other_symbol : Stands wide 3 (pos 3 ∷ pos 4 ∷ []) under-X → ⊥
stands_other_symbol s = omega (arith, ap symbol_number s.1)

stands_on_nothing : Stands wide 0 [] [] → ⊥
stands_on_nothing s = omega (arith, s.0)

-- an ancestor farther down is held in the same way
stands_deeper : Stands wide 1 (pos 3 ∷ pos 4 ∷ []) (waits_at (open_node 0 [] []) X [] ∷ []) → ⊥
stands_deeper s = stands_on_nothing s.3

good_not_value : Good wide (part_at (open_node 1 (pos 3 ∷ pos 5 ∷ []) []) (fresh (Y ∷ terminal 0 ∷ X ∷ Y ∷ [])) under-X) → ⊥
good_not_value q = stands_other_value q.stands

-- ---- parts that are not the tree's

part_other_inherited : PartOf wide wide_tree (part_at (open_node 1 (pos 3 ∷ pos 5 ∷ []) []) (fresh (Y ∷ terminal 0 ∷ X ∷ Y ∷ [])) under-X) → ⊥
part_other_inherited q = omega (arith, ap (at 1) q.node.is_inherited)

part_other_child : PartOf wide wide_tree (in-X (x3 ∷ leaf (bare 0) ∷ y4 ∷ []) (added Y [])) → ⊥
part_other_child q = omega (arith, ap (λ u. at 0 (values (child (children_of u) 0))) q.node.is_node)

part_other_handed : PartOf wide wide_tree (in-X [] (valued Y (pos 8 ∷ []) (terminal 0 ∷ X ∷ Y ∷ []))) → ⊥
part_other_handed q = omega (arith, ap (at 0) q.point)

part_other_results : PartOf wide wide_tree (in-X (y4 ∷ x3 ∷ leaf (bare 0) ∷ y1 ∷ []) (closing (pos 8 ∷ []))) → ⊥
part_other_results q = omega (arith, ap (at 0) q.point)

part_other_below : PartOf wide wide_tree (part_at (open_node 1 (pos 3 ∷ pos 4 ∷ []) []) (fresh (Y ∷ terminal 0 ∷ X ∷ Y ∷ [])) (waits_at (open_node 0 (pos 1 ∷ []) []) X [] ∷ waits_at (open_node whole [] []) (nonterminal 0) [] ∷ [])) → ⊥
part_other_below q = omega (arith, ap length q.below.0.is_inherited)

-- ---- what a part leaves, and what an instruction handles

abbrev registers : List ℤ → Config
registers rs = config [] rs 0 0

-- X has three registers and leaves one: its own three go, one result comes
returned : Returned wide X (registers (m ∷ pos 4 ∷ pos 3 ∷ pos 1 ∷ [])) (registers (pos 7 ∷ pos 1 ∷ []))
returned = record { own = m ∷ pos 4 ∷ pos 3 ∷ []; results = pos 7 ∷ []; below = pos 1 ∷ []; entered = refl; own_size = refl; leaves = refl; results_size = refl }

-- two results, or two of its own registers left behind
sizes : (own results below : List ℤ) (j k : ℕ) → length (own ++ below) ≡ j → length (results ++ below) ≡ k → (length own + length below ≡ j) × (length results + length below ≡ k)
sizes own results below j k e f = (omega (arith, e, length-append own below), omega (arith, f, length-append results below))

returned_two : Returned wide X (registers (m ∷ pos 4 ∷ pos 3 ∷ pos 1 ∷ [])) (registers (pos 7 ∷ pos 7 ∷ pos 1 ∷ [])) → ⊥
returned_two r =
    let s = sizes r.own r.results r.below 4 3 (sym (ap length r.entered)) (sym (ap length r.leaves)) in
    omega (arith, s.0, s.1, r.own_size, r.results_size)

returned_below : Returned wide X (registers (m ∷ pos 4 ∷ pos 3 ∷ pos 1 ∷ [])) (registers (pos 7 ∷ pos 3 ∷ pos 1 ∷ [])) → ⊥
returned_below r =
    let s = sizes r.own r.results r.below 4 3 (sym (ap length r.entered)) (sym (ap length r.leaves)) in
    omega (arith, s.0, s.1, r.own_size, r.results_size)

-- a target below all registers, or above them; an operand that is the mark; more registers removed than there are
abbrev sets : ℕ → ℕ → Instruction
sets t a = evaluate (record { target = t; function = copy a } ∷ [])

handles_too_deep : Handles wide (registers (pos 4 ∷ pos 3 ∷ [])) (sets 3 1) → ⊥
handles_too_deep h = omega (arith, (h (record { target = 3; function = copy 1 }) (inl refl)).0.1)

handles_nothing : Handles wide (registers (pos 4 ∷ pos 3 ∷ [])) (sets 0 1) → ⊥
handles_nothing h = omega (arith, (h (record { target = 0; function = copy 1 }) (inl refl)).0.0)

handles_mark : Handles wide (registers (m ∷ pos 3 ∷ [])) (sets 2 1) → ⊥
handles_mark h = (h (record { target = 2; function = copy 1 }) (inl refl)).1.2

tests_mark : Handles wide (registers (m ∷ pos 3 ∷ [])) (test (range 1 (pos 0) (pos 5) ∷ [])) → ⊥
tests_mark h = (h (range 1 (pos 0) (pos 5)) (inl refl)).2

removes_too_many : Handles wide (registers (m ∷ pos 3 ∷ [])) (remove 3) → ⊥
removes_too_many h = omega (arith, h)
