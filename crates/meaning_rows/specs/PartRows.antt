-- Parts of a tree walked so far, drawn as frames and registers, beside the machine after so many moves; and what selectors find there.
use Rattle.std.specs.Prelude.{ℕ, zero, suc, ◌≡◌, refl, List, [], ◌∷◌, map, reverse, pos, negsuc}
use Rattle.std.proofs.Common.{arith, ap, lit≤}
use Rattle.meaning.specs.Grammar.{Grammar, Leaf, terminal, nonterminal, Occurrence, whole}
use Rattle.meaning.specs.Machine.{Config, moved, blocked, opening, next, look_at, unread, place_of, feed_all, stopped}
use Rattle.meaning.specs.Tree.{Tree, leaf, node, no_trees, tree_and}
use Rattle.meaning.specs.Part.{fresh, added, valued, left, closing, Part, yield_part, value_in, draw_frames, draw_registers, draw_part, forest_onto, Good, PartOf}
use Rattle.meaning.specs.Selectors.{part_at, part_names, FindsTarget}
use Rattle.meaning.specs.Examples.WordsAndTags.{words, bare, plain, occ, lent}
use Rattle.meaning.specs.Examples.SchemeRows.{wide}
use Rattle.meaning.specs.Examples.WalkRows.{wide_tree, wide_segment}
use Rattle.meaning.specs.Examples.CallRows.{m}
use Rattle.meaning.specs.Examples.PartRows.{open_node, waits_at, X, Y, y1, x3, in-X, last_added}

-- ---- word open

walked : Part
walked =
    part_at (open_node 2 (pos 0 ∷ []) (leaf (bare 1) ∷ [])) (valued (nonterminal 1) (pos 1 ∷ []) (terminal 2 ∷ nonterminal 1 ∷ []))
    (waits_at (open_node 1 (pos 0 ∷ []) (leaf (bare 0) ∷ [])) (nonterminal 1) []
    ∷ waits_at (open_node 0 [] []) (nonterminal 1) []
    ∷ waits_at (open_node whole [] []) (nonterminal 0) []
    ∷ [])

walked_tokens : yield_part walked ≡ plain (0 ∷ 1 ∷ [])
unfolding walked
walked_tokens = refl

walked_registers : draw_registers words walked ≡ (pos 1) ∷ m ∷ pos 0 ∷ m ∷ pos 0 ∷ m ∷ m ∷ []
unfolding walked
walked_registers = refl

walked_places : reverse (map (place_of words) (draw_frames words walked)) ≡ 32768 ∷ 0 ∷ 257 ∷ 513 ∷ []
unfolding walked
walked_places = refl

walked_by_machine : feed_all words (lent 9 9) (plain (0 ∷ 1 ∷ [])) (opening words) ≡ stopped (draw_part words walked 2 11)
unfolding walked
walked_by_machine = refl

-- ---- open close word: an ancestor with left children

walked_second : Part
walked_second =
    part_at (open_node 1 (pos 0 ∷ []) (leaf (bare 0) ∷ [])) (valued (nonterminal 1) (pos 0 ∷ []) [])
    (waits_at (open_node 2 (pos 0 ∷ []) (leaf (bare 2) ∷ node 3 (pos 1 ∷ pos 5 ∷ []) no_trees ∷ leaf (bare 1) ∷ [])) (nonterminal 1) []
    ∷ waits_at (open_node 0 [] []) (nonterminal 1) []
    ∷ waits_at (open_node whole [] []) (nonterminal 0) []
    ∷ [])

second_tokens : yield_part walked_second ≡ plain (1 ∷ 2 ∷ 0 ∷ [])
unfolding walked_second
second_tokens = refl

-- 5 in place of the 0 that the first list synthesizes, to tell it from d
second_registers : draw_registers words walked_second ≡ pos 0 ∷ m ∷ pos 0 ∷ m ∷ pos 5 ∷ pos 0 ∷ m ∷ m ∷ []
unfolding walked_second
second_registers = refl

second_places : reverse (map (place_of words) (draw_frames words walked_second)) ≡ 32768 ∷ 0 ∷ 515 ∷ 257 ∷ []
unfolding walked_second
second_places = refl

-- ---- X to Y 0 X Y, at each point

-- after n moves on these tokens
abbrev pub after : ℕ → Grammar → List Leaf → Config → Config
after zero g us c = c
after (suc n) g us c = elim (next g (lent 12 5) (look_at us) c) [ blocked k ↦ c | moved d ↦ after n g (unread c d us) d ]

abbrev machine : ℕ → Config
machine n = after n wide (plain wide_segment) (opening wide)

abbrev pub y4 : Tree
y4 = node 3 (negsuc 0 ∷ negsuc 0 ∷ pos 0 ∷ []) (tree_and (leaf (bare 2)) no_trees)

at_predict : machine 4 ≡ draw_part wide (in-X [] (fresh (Y ∷ terminal 0 ∷ X ∷ Y ∷ []))) 0 4
at_predict = refl

at_added : machine 5 ≡ draw_part wide (in-X [] (added Y (terminal 0 ∷ X ∷ Y ∷ []))) 0 5
at_added = refl

at_valued : machine 6 ≡ draw_part wide (in-X [] (valued Y (pos 7 ∷ []) (terminal 0 ∷ X ∷ Y ∷ []))) 0 6
at_valued = refl

at_left : machine 10 ≡ draw_part wide (in-X (y1 ∷ []) (left (terminal 0 ∷ X ∷ Y ∷ []))) 1 10
at_left = refl

at_tested : machine 11 ≡ draw_part wide (in-X (y1 ∷ []) (fresh (terminal 0 ∷ X ∷ Y ∷ []))) 1 11
at_tested = refl

at_last_added : machine 20 ≡ draw_part wide (in-X (x3 ∷ leaf (bare 0) ∷ y1 ∷ []) (added Y [])) 3 20
at_last_added = refl

at_end_lem : machine 26 ≡ draw_part wide (in-X (y4 ∷ x3 ∷ leaf (bare 0) ∷ y1 ∷ []) (fresh [])) 4 26
at_end_lem = refl

at_closing : machine 27 ≡ draw_part wide (in-X (y4 ∷ x3 ∷ leaf (bare 0) ∷ y1 ∷ []) (closing (pos 7 ∷ []))) 4 27
at_closing = refl

at_closing_registers : (machine 27).registers ≡ (negsuc 0) ∷ pos 0 ∷ pos 7 ∷ pos 7 ∷ pos 8 ∷ pos 3 ∷ pos 4 ∷ pos 7 ∷ m ∷ []
at_closing_registers = refl

-- ---- values of occurrences

values : map (value_in (pos 3 ∷ pos 4 ∷ []) (x3 ∷ leaf (bare 0) ∷ y1 ∷ [])) (occ 0 1 ∷ occ 0 2 ∷ occ 1 1 ∷ occ 1 2 ∷ occ 1 3 ∷ occ 3 2 ∷ occ 3 3 ∷ []) ≡ (pos 3) ∷ pos 4 ∷ pos 7 ∷ pos 7 ∷ pos 8 ∷ pos 3 ∷ pos 7 ∷ []
values = refl

-- ---- what a selector finds: registers 1 to 9 of the node

names : part_names wide last_added ≡ (occ 4 1) ∷ occ 4 2 ∷ occ 4 3 ∷ occ 3 3 ∷ occ 1 2 ∷ occ 1 3 ∷ occ 0 1 ∷ occ 0 2 ∷ occ 0 3 ∷ []
names = refl

finds_target : FindsTarget wide last_added 1 (occ 4 1)
finds_target = record { least = lit≤ tt; most = lit≤ tt; named = refl }

-- one register off is another attribute's; register 0 is none
finds_not : FindsTarget wide last_added 5 (occ 3 3) → ⊥
finds_not f = omega (arith, ap (λ (o : Occurrence). o.position) f.named)

finds_no_register : FindsTarget wide last_added 0 (occ 4 1) → ⊥
finds_no_register f = omega (arith, f.least)

-- ---- a part of a tree

part_of_tree : PartOf wide wide_tree last_added
part_of_tree = record {
  node = record { values = pos 3 ∷ pos 4 ∷ pos 7 ∷ []; ahead = tree_and y4 no_trees; is_node = refl; is_inherited = refl };
  point = tt;
  below = (record { values = pos 7 ∷ []; ahead = tree_and (node 1 (pos 3 ∷ pos 4 ∷ pos 7 ∷ []) (forest_onto (y4 ∷ x3 ∷ leaf (bare 0) ∷ y1 ∷ []) no_trees)) no_trees; is_node = refl; is_inherited = refl }, (record { values = []; ahead = tree_and wide_tree no_trees; is_node = refl; is_inherited = refl }, tt));
}

-- what the opening leaves is a good part
opened : Part
opened = part_at (open_node whole [] []) (valued (nonterminal 0) [] []) []

opened_is : draw_part wide opened 0 0 ≡ opening wide
unfolding opened
opened_is = refl

opened_good : Good wide opened
unfolding opened
opened_good = record {
  node = (record { sized = refl; ranged = tt; lefts = tt; rules = λ r i. absurd i }, (refl, (λ c i. absurd i), record { sized = refl; ranged = tt; rules = λ r i. absurd i }));
  stands = (refl, refl);
}
