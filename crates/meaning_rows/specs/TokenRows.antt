-- 02 (e), runs: tokens that carry a value. Listings, selectors, pictures at every stop, 31 at a read, conditions on a token, 34, 38.
use Rattle.std.specs.Prelude.{ℕ, ◌+◌, ◌*◌, ◌≡◌, refl, true, false, List, [], ◌∷◌, ◌++◌, map, length, replicate, take, drop, ℤ, pos, negsuc}
use Rattle.std.proofs.Common.{arith, inl, lit<, lit≤}
use Rattle.std.proofs.Math.Option.{none}
use Rattle.meaning.specs.Base.{count_from}
use Rattle.meaning.specs.Grammar.{terminal, nonterminal, const, copy, binary, sum, diff, maxi, range, atmost, Leaf, inh, syn, att, marked_for, added_for, leaves}
use Rattle.meaning.specs.Scheme.{add, evaluate, expect, test, remove, scheme, select_inherited, select_after}
use Rattle.meaning.specs.Machine.{Config, opening}
use Rattle.meaning.specs.Tree.{Tree, leaf, node, no_trees, tree_and, TreeOf, value_of, is_leaf_of}
use Rattle.meaning.specs.Walk.{walk, walk_to}
use Rattle.meaning.specs.Drawn.{registers_for, drawn_record, drawn_stacks}
use Rattle.meaning.specs.Part.{Part, Point, added, valued, left, draw_part, yield_part}
use Rattle.meaning.specs.Selectors.{part_names}
use Rattle.meaning.specs.Calls.{Called, more, value, refused, open_of, feed_of, stacks_fit, tokens_from}
use Rattle.meaning.specs.Fit.{Fit, segment, inside}
use Rattle.meaning.specs.PublicCalls.{printed}
use Rattle.meaning.specs.Program.{program_of}
use Rattle.meaning.specs.Table.{read_table}
use Rattle.meaning.specs.Examples.WordsAndTags.{words, occ, bare, lent}
use Rattle.meaning.specs.Examples.TableRows.{grammar}
use Rattle.meaning.specs.Examples.ListingRows.{codes}
use Rattle.meaning.specs.Examples.CallRows.{m, state, stacks, called, used, then_feed, then_finish}
use Rattle.meaning_rows.specs.WalkRows.{acts}
use Rattle.meaning.specs.Examples.PartRows.{open_node, waits_at}
use Rattle.meaning_rows.specs.PartRows.{after}
use Rattle.meaning.specs.Examples.TokenRows.{then_bring, carrier, r, lengths1, lengths, lengths_table, pair, X, mixed1, mixed, mixed_tree}

-- ---- the grammar of words and tags, where a word carries its length and n adds the lengths up

lengths_read : grammar (read_table lengths_table) ≡ lengths
unfolding lengths_table grammar
lengths_read = refl

-- no A for the word; its register counts in E2, E0 and R
lengths_listing : printed lengths_table ≡ codes "0 A1 2\n0 E1 1 const 0\n0 E0 2 copy 1\n0 R 1\n1 A2 2\n1 E2 1 copy 4\n1 E0 4 sum 2 1\n1 R 3\n2 P0 range 1 0 2\n2 A2 2\n2 E2 1 addc 3 1\n2 A4 2\n2 E4 1 copy 4\n2 E0 4 sum 2 1\n2 R 3\n3 E0 2 const 0\n3 R 1\n"
unfolding lengths_table
lengths_listing = refl

-- what a word and an open own, what is added for them, what stands while they are waited at
owned : map (λ x. inh lengths x ∷ syn lengths x ∷ att lengths x ∷ marked_for lengths x ∷ added_for lengths x ∷ []) (terminal 0 ∷ terminal 1 ∷ nonterminal 1 ∷ []) ≡ (0 ∷ 1 ∷ 1 ∷ 0 ∷ 0 ∷ []) ∷ (0 ∷ 0 ∷ 0 ∷ 0 ∷ 0 ∷ []) ∷ (1 ∷ 1 ∷ 2 ∷ 1 ∷ 2 ∷ []) ∷ []
owned = refl

lengths_scheme : scheme lengths lengths1 ≡ expect (terminal 0) ∷ add 2 ∷ evaluate (r 1 (copy 4) ∷ []) ∷ expect (nonterminal 1) ∷ evaluate (r 4 (binary sum 2 1) ∷ []) ∷ remove 3 ∷ []
lengths_scheme = refl

-- the program: word carries a value; L to word L, its two expects at 229 and 234; read word, add 2, evaluate, expect L
lengths_program : take 3 (drop 6 (program_of lengths)) ++ take 8 (drop 227 (program_of lengths)) ≡ 4 ∷ 1 ∷ 0 ∷ 229 ∷ 234 ∷ 2 ∷ 16 ∷ 9 ∷ 8321 ∷ 0 ∷ 11 ∷ []
lengths_program = refl

-- L to word L waits at the word with no register marked for it, and at L when the word has left its register
lengths_waits : take 3 (drop 181 (program_of lengths)) ≡ (1 + 536870912) ∷ (1 + 64 + 8192 + 131072 + 2097152 * 129 + 536870912) ∷ 0 ∷ []
lengths_waits = refl

-- terminals 0, 31, 32 and 62, each its own bit
carriers_words : take 2 (drop 7 (program_of (record { terminals = 63; counts = words.counts; carrying = 0 ∷ 31 ∷ 32 ∷ 62 ∷ []; start = 0; result = 1; productions = [] }))) ≡ 2147483649 ∷ 1073741825 ∷ []
carriers_words = refl

-- ---- word 5, open, word 3, close

abbrev pub kinds : List ℕ
kinds = 0 ∷ 1 ∷ 0 ∷ 2 ∷ []

-- 77 and 99 are ignored
abbrev pub length_values : List ℤ
length_values = pos 5 ∷ pos 77 ∷ pos 3 ∷ pos 99 ∷ []

abbrev pub length_leaves : List Leaf
length_leaves = carrier 0 (pos 5) ∷ bare 1 ∷ carrier 0 (pos 3) ∷ bare 2 ∷ []

seen : leaves lengths (tokens_from kinds length_values) ≡ length_leaves
seen = refl

-- lists of unequal length make as many tokens as the shorter has (and are turned back)
paired : map length (tokens_from kinds [] ∷ tokens_from [] length_values ∷ tokens_from kinds (pos 5 ∷ []) ∷ []) ≡ 0 ∷ 0 ∷ 1 ∷ []
paired = refl

abbrev pub length_tree : Tree
length_tree =
    node 0 (pos 8 ∷ []) (tree_and
    (node 1 (pos 0 ∷ pos 8 ∷ []) (tree_and (leaf (carrier 0 (pos 5))) (tree_and
    (node 2 (pos 0 ∷ pos 3 ∷ []) (tree_and (leaf (bare 1)) (tree_and
    (node 1 (pos 1 ∷ pos 3 ∷ []) (tree_and (leaf (carrier 0 (pos 3))) (tree_and (node 3 (pos 1 ∷ pos 0 ∷ []) no_trees) no_trees))) (tree_and (leaf (bare 2)) (tree_and
    (node 3 (pos 0 ∷ pos 0 ∷ []) no_trees) no_trees)))))
    no_trees))) no_trees)

length_tree_lem : TreeOf lengths length_leaves length_tree
length_tree_lem =
    record {
      evaluated = (
        record { listed = lit< tt; symbol = refl; size = refl; ranges = tt; rules = (refl, (refl, tt)); conditions = tt },
        (
          (
            record { listed = lit< tt; symbol = refl; size = refl; ranges = tt; rules = (refl, (refl, tt)); conditions = tt },
            (
              (refl, tt),
              (
                (
                  record { listed = lit< tt; symbol = refl; size = refl; ranges = tt; rules = (refl, (refl, (refl, tt))); conditions = tt },
                  (
                    (refl, tt),
                    (
                      (
                        record { listed = lit< tt; symbol = refl; size = refl; ranges = tt; rules = (refl, (refl, tt)); conditions = tt },
                        ((refl, tt), ((record { listed = lit< tt; symbol = refl; size = refl; ranges = tt; rules = (refl, tt); conditions = tt }, tt), tt)),
                      ),
                      ((refl, tt), ((record { listed = lit< tt; symbol = refl; size = refl; ranges = tt; rules = (refl, tt); conditions = tt }, tt), tt)),
                    ),
                  ),
                ),
                tt,
              ),
            ),
          ),
          tt,
        ),
      );
      read = refl;
    }

-- a leaf has exactly its terminal's values, in range: a word without one or with two, an open with one, a length out of range
leaf_sizes : map (is_leaf_of lengths) (carrier 0 (pos 5) ∷ bare 1 ∷ bare 0 ∷ record { kind = 0; values = pos 1 ∷ pos 2 ∷ [] } ∷ carrier 1 (pos 5) ∷ carrier 0 (pos 1000000000001) ∷ carrier 0 m ∷ []) ≡ true ∷ true ∷ replicate 5 false
leaf_sizes = refl

length_value : value_of lengths length_tree ≡ pos 8
length_value = refl

length_walk : acts 50 lengths (lent 11 6) length_leaves (opening lengths) ≡ walk lengths length_tree
length_walk = refl

-- the read adds its register in the same move: as many moves as without values
length_stops : map (λ j. length (walk_to j (walk lengths length_tree))) (count_from 0 5) ≡ 0 ∷ 7 ∷ 11 ∷ 15 ∷ 23 ∷ []
length_stops = refl

length_drawn : ℕ → Called
length_drawn j = called (more (length (walk_to j (walk lengths length_tree)))) (drawn_record lengths length_tree j false) (drawn_stacks lengths length_tree j false (used 12 7))

length_at : map (λ j. then_bring lengths (take j kinds) (take j length_values) (open_of lengths (used 12 7))) (count_from 0 5) ≡ map length_drawn (count_from 0 5)
unfolding length_drawn
length_at = refl

length_over : then_finish lengths (then_bring lengths kinds length_values (open_of lengths (used 12 7))) ≡ called (value (pos 8) 32) (drawn_record lengths length_tree 4 true) (drawn_stacks lengths length_tree 4 true (used 12 7))
length_over = refl

-- the same cells, written out: a word's length lies on its node's registers, below those of the list after it
after_word : then_bring lengths (0 ∷ []) (pos 5 ∷ []) (open_of lengths (used 12 7)) ≡ called (more 7) (state true 1 7 6 3) (stacks (m ∷ m ∷ pos 0 ∷ pos 5 ∷ m ∷ pos 0 ∷ replicate 6 m) (32768 ∷ 0 ∷ 257 ∷ 0 ∷ 0 ∷ 0 ∷ 0 ∷ []))
after_word = refl

after_all_four : then_bring lengths kinds length_values (open_of lengths (used 12 7)) ≡ called (more 23) (state true 4 23 9 4) (stacks (m ∷ m ∷ pos 0 ∷ pos 5 ∷ m ∷ pos 0 ∷ pos 3 ∷ m ∷ pos 0 ∷ m ∷ m ∷ m ∷ []) (32768 ∷ 0 ∷ 257 ∷ 515 ∷ 0 ∷ 0 ∷ 0 ∷ []))
after_all_four = refl

-- in pieces, token by token
in_pieces : then_bring lengths (0 ∷ 2 ∷ []) (pos 3 ∷ pos 99 ∷ []) (then_bring lengths (0 ∷ 1 ∷ []) (pos 5 ∷ pos 77 ∷ []) (open_of lengths (used 12 7))) ≡ then_bring lengths kinds length_values (open_of lengths (used 12 7))
in_pieces = refl

-- 11 registers do, 10 do not: an add's 31; with 8 it is the read's own: predicted, not read
length_registers : registers_for lengths 1 length_tree ≡ 11
length_registers = refl

enough : (then_bring lengths kinds length_values (open_of lengths (used 11 6))).answer ≡ more 23
enough = refl

one_less : (then_bring lengths kinds length_values (open_of lengths (used 10 6))).answer ≡ refused 31 3
one_less = refl

full_at_read : then_bring lengths kinds length_values (open_of lengths (used 8 6)) ≡ called (refused 31 2) (state false 2 12 8 5) (stacks (m ∷ m ∷ pos 0 ∷ pos 5 ∷ m ∷ pos 0 ∷ m ∷ pos 1 ∷ []) (32768 ∷ 0 ∷ 257 ∷ 513 ∷ 256 ∷ 0 ∷ []))
full_at_read = refl

-- ---- S to a b, both with a value: a from 0 to 9 and at most b; n is a - b

-- the condition is tested before the stop, after which the place counts the token
a_read : map (λ v. then_bring pair (0 ∷ []) (v ∷ []) (open_of pair (used 3 2))) (pos 4 ∷ []) ≡ called (more 3) (state true 1 3 2 2) (stacks (m ∷ pos 4 ∷ m ∷ []) (32768 ∷ 1 ∷ [])) ∷ []
a_read = refl

-- 22: the token is read and stands, its place does not count it
a_too_great : map (λ v. then_bring pair (0 ∷ []) (v ∷ []) (open_of pair (used 3 2))) (pos 10 ∷ negsuc 0 ∷ [])
    ≡ called (refused 22 1) (state false 1 2 2 2) (stacks (m ∷ pos 10 ∷ m ∷ []) (32768 ∷ 0 ∷ []))
    ∷ called (refused 22 1) (state false 1 2 2 2) (stacks (m ∷ negsuc 0 ∷ m ∷ []) (32768 ∷ 0 ∷ [])) ∷ []
a_too_great = refl

-- both sides of each bound, and of the comparison
bounds : map (λ v. (then_bring pair (0 ∷ []) (v ∷ []) (open_of pair (used 3 2))).answer) (negsuc 0 ∷ pos 0 ∷ pos 9 ∷ pos 10 ∷ []) ≡ refused 22 1 ∷ more 3 ∷ more 3 ∷ refused 22 1 ∷ []
bounds = refl

compared : map (λ v. then_bring pair (0 ∷ 1 ∷ []) (pos 4 ∷ v ∷ []) (open_of pair (used 3 2))) (pos 3 ∷ pos 4 ∷ pos 7 ∷ []) ≡
    called (refused 22 2) (state false 2 4 3 2) (stacks (m ∷ pos 4 ∷ pos 3 ∷ []) (32768 ∷ 1 ∷ []))
    ∷ called (more 7) (state true 2 7 1 1) (stacks (pos 0 ∷ m ∷ m ∷ []) (32769 ∷ 0 ∷ []))
    ∷ called (more 7) (state true 2 7 1 1) (stacks (negsuc 2 ∷ m ∷ m ∷ []) (32769 ∷ 0 ∷ []))
    ∷ []
compared = refl

-- the greatest value that a token can carry
ends_of_range : map (λ v. (then_bring pair (0 ∷ 1 ∷ []) (pos 0 ∷ v ∷ []) (open_of pair (used 3 2))).answer) (pos 2147483647 ∷ []) ≡ more 7 ∷ []
ends_of_range = refl

-- 35 before 21 and 31, 24 at the end
limit_before_read : map (λ k. (feed_of pair (state true 1 4294967295 2 2) (stacks (m ∷ pos 4 ∷ []) (32768 ∷ 1 ∷ [])) (k ∷ []) (pos 4 ∷ [])).answer) (0 ∷ 1 ∷ 2 ∷ []) ≡ refused 35 1 ∷ refused 35 1 ∷ refused 20 1 ∷ []
limit_before_read = refl

over_at_read : (then_finish pair (then_bring pair (0 ∷ []) (pos 4 ∷ []) (open_of pair (used 3 2)))).answer ≡ refused 24 1
over_at_read = refl

-- ---- 34 with the registers of terminals: one for a terminal passed, none for one waited at

pair_waits : map (λ rs. stacks_fit pair (state true 0 0 (length rs) 2) (stacks rs (32768 ∷ 0 ∷ []))) ((m ∷ []) ∷ (m ∷ m ∷ []) ∷ (m ∷ pos 4 ∷ []) ∷ []) ≡ true ∷ false ∷ false ∷ []
pair_waits = refl

pair_passed : map (λ rs. stacks_fit pair (state true 0 0 (length rs) 2) (stacks rs (32768 ∷ 1 ∷ []))) ((m ∷ pos 4 ∷ []) ∷ (m ∷ []) ∷ (m ∷ m ∷ []) ∷ (pos 4 ∷ m ∷ []) ∷ (m ∷ pos 4 ∷ m ∷ []) ∷ (m ∷ pos 4 ∷ pos 4 ∷ []) ∷ []) ≡ true ∷ replicate 5 false
pair_passed = refl

-- any value in range: conditions are not asked
pair_values : map (λ v. stacks_fit pair (state true 0 0 2 2) (stacks (m ∷ v ∷ []) (32768 ∷ 1 ∷ []))) (pos 10 ∷ pos 1000000000000 ∷ negsuc 999999999999 ∷ pos 1000000000001 ∷ negsuc 1000000000000 ∷ []) ≡ true ∷ true ∷ true ∷ false ∷ false ∷ []
pair_values = refl

-- the same places under a grammar whose terminals carry nothing
words_passed : map (λ g. stacks_fit g (state true 1 7 6 3) (stacks (m ∷ m ∷ pos 0 ∷ pos 5 ∷ m ∷ pos 0 ∷ []) (32768 ∷ 0 ∷ 257 ∷ []))) (lengths ∷ words ∷ []) ≡ true ∷ false ∷ []
words_passed = refl

-- forged: a waited at, with its place alone; it goes on from there
forged_at_read : feed_of pair (state true 7 7 1 2) (stacks (m ∷ m ∷ m ∷ []) (32768 ∷ 0 ∷ [])) (0 ∷ []) (pos 4 ∷ []) ≡ called (more 9) (state true 8 9 2 2) (stacks (m ∷ pos 4 ∷ m ∷ []) (32768 ∷ 1 ∷ []))
forged_at_read = refl

declared : Fit pair (state true 0 0 2 2) (stacks (m ∷ pos 4 ∷ []) (32768 ∷ 1 ∷ []))
declared = record {
  tokens = lit≤ tt;
  moves = lit≤ tt;
  register_height = lit≤ tt;
  place_height = lit≤ tt;
  stands = inl (terminal 1, inside 0 1 [] (pos 4 ∷ []) (lit< tt) (lit< tt) (lit< tt) (record { size = refl; ranged = tt }) (record { size = refl; ranged = tt }) (segment [] (record { size = refl; ranged = tt })));
  registers_cleared = λ i l h. absurd (omega (arith, l, h));
  places_cleared = λ i l h. absurd (omega (arith, l, h));
}

-- ---- 38: after 33 and 34, before 20, 31, 35 and any move; everything as brought, 0 beside it

uneven : map (λ vs. then_bring pair (0 ∷ []) vs (open_of pair (used 3 2))) ([] ∷ (pos 4 ∷ pos 4 ∷ []) ∷ []) ≡ replicate 2 (called (refused 38 0) (state true 0 0 1 1) (stacks (m ∷ m ∷ m ∷ []) (32768 ∷ 0 ∷ [])))
uneven = refl

uneven_empty : (then_bring pair [] (pos 4 ∷ []) (open_of pair (used 3 2))).answer ≡ refused 38 0
uneven_empty = refl

uneven_later : then_bring pair (0 ∷ []) [] (then_bring pair (0 ∷ []) (pos 4 ∷ []) (open_of pair (used 3 2))) ≡ called (refused 38 0) (state true 1 3 2 2) (stacks (m ∷ pos 4 ∷ m ∷ []) (32768 ∷ 1 ∷ []))
uneven_later = refl

uneven_first : map (λ k. (feed_of pair (state true 65535 4294967295 1 2) (stacks (m ∷ []) (32768 ∷ 0 ∷ [])) (k ∷ []) []).answer) (0 ∷ 1 ∷ 255 ∷ []) ≡ replicate 3 (refused 38 0)
uneven_first = refl

-- also where no terminal carries a value
uneven_words : (then_bring words (0 ∷ 0 ∷ []) (pos 1 ∷ []) (open_of words (used 3 2))).answer ≡ refused 38 0
uneven_words = refl

-- ---- values that are ignored: the grammar of words and tags as ever

ignored : map (λ v. then_bring words (0 ∷ 1 ∷ []) (v ∷ v ∷ []) (open_of words (used 8 5))) (pos 9 ∷ negsuc 2147483647 ∷ []) ≡ replicate 2 (then_feed words (0 ∷ 1 ∷ []) (open_of words (used 8 5)))
ignored = refl

-- ---- selectors right of valued tokens: X to a X b X, or c. X has inherited d, synthesized n; a and b carry values, c does not

-- at X, position 4: its own two, b, n of the first X, a, then d and n of the left side
at_symbol_4 : map (select_inherited mixed mixed1 4) (occ 4 1 ∷ occ 3 1 ∷ occ 2 2 ∷ occ 1 1 ∷ occ 0 1 ∷ []) ≡ 1 ∷ 3 ∷ 4 ∷ 5 ∷ 6 ∷ []
at_symbol_4 = refl

at_symbol_2 : map (select_inherited mixed mixed1 2) (occ 2 1 ∷ occ 1 1 ∷ occ 0 1 ∷ []) ≡ 1 ∷ 3 ∷ 4 ∷ []
at_symbol_2 = refl

-- after each symbol
after_symbols : map (λ k. map (select_after mixed mixed1 k) (occ 1 1 ∷ occ 0 1 ∷ [])) (1 ∷ 2 ∷ 3 ∷ 4 ∷ []) ≡ (1 ∷ 2 ∷ []) ∷ (2 ∷ 3 ∷ []) ∷ (3 ∷ 4 ∷ []) ∷ (4 ∷ 5 ∷ []) ∷ []
after_symbols = refl

mixed_scheme : scheme mixed mixed1 ≡
    expect (terminal 0)
    ∷ add 2 ∷ evaluate (r 1 (binary sum 4 3) ∷ []) ∷ expect X
    ∷ expect (terminal 1) ∷ test (atmost 3 1 none ∷ [])
    ∷ add 2 ∷ evaluate (r 1 (binary diff 4 3) ∷ []) ∷ expect X
    ∷ evaluate (r 6 (binary maxi 1 4) ∷ []) ∷ remove 5 ∷ []
mixed_scheme = refl

abbrev pub mixed_leaves : List Leaf
mixed_leaves = carrier 0 (pos 7) ∷ bare 2 ∷ carrier 1 (pos 20) ∷ bare 2 ∷ []

mixed_tree_lem : TreeOf mixed mixed_leaves mixed_tree
mixed_tree_lem =
    record {
      evaluated = (
        record { listed = lit< tt; symbol = refl; size = refl; ranges = tt; rules = (refl, (refl, tt)); conditions = tt },
        (
          (
            record { listed = lit< tt; symbol = refl; size = refl; ranges = tt; rules = (refl, (refl, (refl, tt))); conditions = tt },
            (
              (refl, tt),
              (
                (record { listed = lit< tt; symbol = refl; size = refl; ranges = tt; rules = (refl, tt); conditions = tt }, ((refl, tt), tt)),
                ((refl, tt), ((record { listed = lit< tt; symbol = refl; size = refl; ranges = tt; rules = (refl, tt); conditions = tt }, ((refl, tt), tt)), tt)),
              ),
            ),
          ),
          tt,
        ),
      );
      read = refl;
    }

mixed_walk : acts 50 mixed (lent 9 4) mixed_leaves (opening mixed) ≡ walk mixed mixed_tree
mixed_walk = refl

mixed_drawn : ℕ → Called
mixed_drawn j = called (more (length (walk_to j (walk mixed mixed_tree)))) (drawn_record mixed mixed_tree j false) (drawn_stacks mixed mixed_tree j false (used 12 7))

mixed_at : map (λ j. then_bring mixed (take j (0 ∷ 2 ∷ 1 ∷ 2 ∷ [])) (take j (pos 7 ∷ pos 1 ∷ pos 20 ∷ pos 2 ∷ [])) (open_of mixed (used 12 7))) (count_from 0 5) ≡ map mixed_drawn (count_from 0 5)
unfolding mixed_drawn
mixed_at = refl

-- waiting at b: a's register and the first X's n stand, none for b; after it b's, too
waits_at_b : (then_bring mixed (0 ∷ 2 ∷ []) (pos 7 ∷ pos 1 ∷ []) (open_of mixed (used 9 4))).stacks ≡ stacks (m ∷ m ∷ pos 100 ∷ pos 7 ∷ pos 107 ∷ m ∷ m ∷ m ∷ m ∷ []) (32768 ∷ 0 ∷ 258 ∷ 0 ∷ [])
waits_at_b = refl

after_b : (then_bring mixed (0 ∷ 2 ∷ 1 ∷ []) (pos 7 ∷ pos 1 ∷ pos 20 ∷ []) (open_of mixed (used 9 4))).stacks ≡ stacks (m ∷ m ∷ pos 100 ∷ pos 7 ∷ pos 107 ∷ pos 20 ∷ m ∷ pos 87 ∷ m ∷ []) (32768 ∷ 0 ∷ 259 ∷ 0 ∷ [])
after_b = refl

-- ---- parts: before b is read, after it, and at the second X

abbrev first_x : Tree
first_x = node 2 (pos 107 ∷ pos 107 ∷ []) (tree_and (leaf (bare 2)) no_trees)

abbrev in_x : List Tree → Point → Part
in_x ts pt = record { node = open_node 1 (pos 100 ∷ []) ts; point = pt; below = waits_at (open_node 0 [] []) X [] ∷ waits_at (open_node 128 [] []) (nonterminal 0) [] ∷ [] }

abbrev mixed_after : ℕ → Config
mixed_after n = after n mixed mixed_leaves (opening mixed)

at_b : mixed_after 11 ≡ draw_part mixed (in_x (first_x ∷ leaf (carrier 0 (pos 7)) ∷ []) (valued (terminal 1) [] (X ∷ []))) 2 11
at_b = refl

b_left : mixed_after 12 ≡ draw_part mixed (in_x (leaf (carrier 1 (pos 20)) ∷ first_x ∷ leaf (carrier 0 (pos 7)) ∷ []) (left (X ∷ []))) 3 12
b_left = refl

second_added : mixed_after 14 ≡ draw_part mixed (in_x (leaf (carrier 1 (pos 20)) ∷ first_x ∷ leaf (carrier 0 (pos 7)) ∷ []) (added X [])) 3 14
second_added = refl

-- their registers by name
at_b_names : part_names mixed (in_x (first_x ∷ leaf (carrier 0 (pos 7)) ∷ []) (valued (terminal 1) [] (X ∷ []))) ≡ occ 2 2 ∷ occ 1 1 ∷ occ 0 1 ∷ occ 0 2 ∷ []
at_b_names = refl

second_names : part_names mixed (in_x (leaf (carrier 1 (pos 20)) ∷ first_x ∷ leaf (carrier 0 (pos 7)) ∷ []) (added X [])) ≡ occ 4 1 ∷ occ 4 2 ∷ occ 3 1 ∷ occ 2 2 ∷ occ 1 1 ∷ occ 0 1 ∷ occ 0 2 ∷ []
second_names = refl

part_tokens : yield_part (in_x (leaf (carrier 1 (pos 20)) ∷ first_x ∷ leaf (carrier 0 (pos 7)) ∷ []) (left (X ∷ []))) ≡ take 3 mixed_leaves
part_tokens = refl
