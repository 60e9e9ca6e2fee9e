-- The walk of a tree, move by move, at every stop, beside its count, what the machine does, and what is drawn in memory.
use Rattle.std.specs.Prelude.{ℕ, zero, suc, ◌≡◌, refl, true, false, List, [], ◌∷◌, map, length, take, pos}
use Rattle.std.proofs.Common.{lit≤}
use Rattle.meaning.specs.Base.{count_from}
use Rattle.meaning.specs.Grammar.{Grammar, Leaf, Function, const, copy, binary, sum, addc, Rule, nonterminal}
use Rattle.meaning.specs.Scheme.{add, evaluate, expect, remove}
use Rattle.meaning.specs.Machine.{Config, Lent, moved, blocked, opening, next, look_at, unread, write_all}
use Rattle.meaning.specs.Tree.{Tree, leaf, node, no_trees, tree_and, value_of}
use Rattle.meaning.specs.Walk.{Act, predicts, reads, performs, walk, walk_to, act_by, Makes, nothing, and_then}
use Rattle.meaning.specs.Drawn.{registers_for, depth, WalkFits, drawn_record, drawn_stacks, drawn_moves}
use Rattle.meaning.specs.Calls.{Called, more, value, refused, open_of}
use Rattle.meaning.specs.Examples.WordsAndTags.{words, bare, plain, lent}
use Rattle.meaning.specs.Examples.Pictures.{tree, segment}
use Rattle.meaning.specs.Examples.SchemeRows.{wide}
use Rattle.meaning.specs.Examples.CallRows.{m, called, used, then_feed, then_finish}
use Rattle.meaning.specs.Examples.WalkRows.{wide_tree, wide_segment}

abbrev r : ℕ → Function ℕ → Rule ℕ
r t f = record { target = t; function = f }

-- one evaluation of production p
abbrev sets : ℕ → ℕ → Function ℕ → Act
sets p t f = performs p (evaluate (r t f ∷ []))

-- ---- word open word close

its_walk : walk words tree ≡
    predicts 0 ∷ performs 0 (add 2) ∷ sets 0 1 (const (pos 0))
    ∷ predicts 1 ∷ reads 0 ∷ performs 1 (add 2) ∷ sets 1 1 (copy 3)
    ∷ predicts 2 ∷ reads 1 ∷ performs 2 (add 2) ∷ sets 2 1 (addc 3 (pos 1))
    ∷ predicts 1 ∷ reads 0 ∷ performs 1 (add 2) ∷ sets 1 1 (copy 3)
    ∷ predicts 3 ∷ sets 3 2 (const (pos 0)) ∷ performs 3 (remove 1)
    ∷ sets 1 3 (addc 1 (pos 1)) ∷ performs 1 (remove 2)
    ∷ reads 2 ∷ performs 2 (add 2) ∷ sets 2 1 (copy 4)
    ∷ predicts 3 ∷ sets 3 2 (const (pos 0)) ∷ performs 3 (remove 1)
    ∷ sets 2 4 (binary sum 2 1) ∷ performs 2 (remove 3)
    ∷ sets 1 3 (addc 1 (pos 1)) ∷ performs 1 (remove 2)
    ∷ sets 0 2 (copy 1) ∷ performs 0 (remove 1)
    ∷ []
its_walk = refl

-- after no token nothing; after each of the four all before the predict or read that needs the next; after the end all
its_stops : map (λ j. length (walk_to j (walk words tree))) (count_from 0 5) ≡ 0 ∷ 7 ∷ 11 ∷ 15 ∷ 23 ∷ []
its_stops = refl

after_word_open : walk_to 2 (walk words tree) ≡ take 11 (walk words tree)
after_word_open = refl

over : map length (drawn_moves words tree 4 false ∷ drawn_moves words tree 4 true ∷ []) ≡ 23 ∷ 32 ∷ []
over = refl

-- ---- the machine's moves by name, until it is blocked

abbrev pub acts : ℕ → Grammar → Lent → List Leaf → Config → List Act
acts zero g l us c = []
acts (suc n) g l us c = elim c.frames [
  | [] ↦ []
  | f ∷ fs ↦ elim f.rest [
    | [] ↦ []
    | i ∷ is ↦ elim (next g l (look_at us) c) [ blocked k ↦ [] | moved d ↦ act_by f.production i d ∷ acts n g l (unread c d us) d ]
  ]
]

machine_walks : acts 50 words (lent 9 6) (plain segment) (opening words) ≡ walk words tree
machine_walks = refl

-- its first two moves, as a sequence of moves
two_moves : Makes words (lent 9 6) (plain segment) (opening words) (predicts 0 ∷ performs 0 (add 2) ∷ []) (plain segment)
    (record {
      frames = record { production = 0; rest = evaluate (r 1 (const (pos 0)) ∷ []) ∷ expect (nonterminal 1) ∷ evaluate (r 2 (copy 1) ∷ []) ∷ remove 1 ∷ [] }
          ∷ record { production = 128; rest = expect (nonterminal 0) ∷ [] } ∷ [];
      registers = m ∷ m ∷ m ∷ [];
      tokens = 0;
      moves = 2;
    })
two_moves = and_then _ _ _ _ _ (and_then _ _ _ _ _ nothing refl refl) refl refl

-- the evaluations of one move read the registers as they stood before it
all_at_once : write_all (r 1 (copy 2) ∷ r 2 (copy 1) ∷ []) (pos 7 ∷ pos 8 ∷ []) (pos 7 ∷ pos 8 ∷ []) ≡ pos 8 ∷ pos 7 ∷ []
all_at_once = refl

-- ---- what is lent: 9 registers and 6 places do, one less of either does not

its_registers : registers_for words 1 tree ≡ 9
its_registers = refl

its_depth : depth tree ≡ 5
its_depth = refl

its_fit : WalkFits words (lent 9 6) tree
its_fit = record { registers = lit≤ tt; places = lit≤ tt; tokens = lit≤ tt; moves = lit≤ tt }

run : ℕ → ℕ → Called
run rs ps = then_finish words (then_feed words segment (open_of words (used rs ps)))

fits : (run 9 6).answer ≡ value (pos 2) 32
unfolding run
fits = refl

one_register_less : (then_feed words segment (open_of words (used 8 6))).answer ≡ refused 31 3
one_register_less = refl

one_place_less : (then_feed words segment (open_of words (used 9 5))).answer ≡ refused 32 3
one_place_less = refl

-- ---- a tree with conditions and several attributes: X to Y 0 X Y

wide_value : value_of wide wide_tree ≡ pos 7
wide_value = refl

wide_walks : acts 50 wide (lent 10 4) (plain wide_segment) (opening wide) ≡ walk wide wide_tree
wide_walks = refl

-- the tests count, and stand before the stop
wide_stops : map (λ j. length (walk_to j (walk wide wide_tree))) (count_from 0 5) ≡ 0 ∷ 11 ∷ 14 ∷ 21 ∷ 30 ∷ []
wide_stops = refl

wide_registers : registers_for wide 1 wide_tree ≡ 10
wide_registers = refl

wide_depth : depth wide_tree ≡ 3
wide_depth = refl

wide_lent : map (λ l. (then_feed wide wide_segment (open_of wide l)).answer) (used 10 4 ∷ used 9 4 ∷ used 10 3 ∷ []) ≡ more 30 ∷ refused 31 3 ∷ refused 32 0 ∷ []
wide_lent = refl

-- ---- record and stacks drawn, at each stop

wide_drawn : ℕ → Called
wide_drawn j = called (more (length (walk_to j (walk wide wide_tree)))) (drawn_record wide wide_tree j false) (drawn_stacks wide wide_tree j false (used 12 5))

wide_at : map (λ j. then_feed wide (take j wide_segment) (open_of wide (used 12 5))) (count_from 0 5) ≡ map wide_drawn (count_from 0 5)
unfolding wide_drawn
wide_at = refl

wide_over : then_finish wide (then_feed wide wide_segment (open_of wide (used 12 5))) ≡ called (value (pos 7) 30) (drawn_record wide wide_tree 4 true) (drawn_stacks wide wide_tree 4 true (used 12 5))
unfolding wide_drawn
wide_over = refl

words_drawn : ℕ → Called
words_drawn j = called (more (length (walk_to j (walk words tree)))) (drawn_record words tree j false) (drawn_stacks words tree j false (used 12 7))

words_at_lem : map (λ j. then_feed words (take j segment) (open_of words (used 12 7))) (count_from 0 5) ≡ map words_drawn (count_from 0 5)
unfolding words_drawn
words_at_lem = refl

words_over : then_finish words (then_feed words segment (open_of words (used 12 7))) ≡ called (value (pos 2) 32) (drawn_record words tree 4 true) (drawn_stacks words tree 4 true (used 12 7))
words_over = refl

-- open close word: the second list stands on what the first has synthesized

second_tree : Tree
second_tree =
    node 0 (pos 1 ∷ []) (tree_and
    (node 2 (pos 0 ∷ pos 1 ∷ []) (tree_and (leaf (bare 1)) (tree_and
    (node 3 (pos 1 ∷ pos 0 ∷ []) no_trees) (tree_and (leaf (bare 2)) (tree_and
    (node 1 (pos 0 ∷ pos 1 ∷ []) (tree_and (leaf (bare 0)) (tree_and (node 3 (pos 0 ∷ pos 0 ∷ []) no_trees) no_trees)))
    no_trees))))) no_trees)

second_drawn : ℕ → Called
second_drawn j = called (more (length (walk_to j (walk words second_tree)))) (drawn_record words second_tree j false) (drawn_stacks words second_tree j false (used 12 7))

second_at : map (λ j. then_feed words (take j (1 ∷ 2 ∷ 0 ∷ [])) (open_of words (used 12 7))) (count_from 0 4) ≡ map second_drawn (count_from 0 4)
unfolding second_drawn second_tree
second_at = refl

second_over : then_finish words (then_feed words (1 ∷ 2 ∷ 0 ∷ []) (open_of words (used 12 7))) ≡ called (value (pos 1) 26) (drawn_record words second_tree 3 true) (drawn_stacks words second_tree 3 true (used 12 7))
unfolding second_tree
second_over = refl
