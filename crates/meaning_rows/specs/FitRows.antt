-- 34: stacks that fit, and stacks in which one of 01's facts is wrong.
use Rattle.std.specs.Prelude.{ℕ, ◌≡◌, refl, Bool, true, false, List, [], ◌∷◌, ◌++◌, map, replicate, ℤ, pos, negsuc}
use Rattle.std.proofs.Common.{arith, inl, inr, lit<, lit≤}
use Rattle.meaning.specs.Grammar.{nonterminal}
use Rattle.meaning.specs.Calls.{more, refused, stacks_fit, open_of, finish_of}
use Rattle.meaning.specs.Fit.{Fit, segment, inside}
use Rattle.meaning.specs.Examples.WordsAndTags.{words}
use Rattle.meaning.specs.Examples.SchemeRows.{wide}
use Rattle.meaning.specs.Examples.CallRows.{m, state, stacks, called, feed_kinds}

-- ---- what a run leaves after word open: 7 registers and 4 places, 8 and 5 lent

abbrev after_open : List ℤ
after_open = m ∷ m ∷ pos 0 ∷ m ∷ pos 0 ∷ m ∷ pos 1 ∷ []

-- with other counts; with other registers, their height given; with other places, their height given
abbrev counts : ℕ → ℕ → ℕ → ℕ → Bool
counts t n rs ps = stacks_fit words (state true t n rs ps) (stacks (after_open ++ (m ∷ [])) (32768 ∷ 0 ∷ 257 ∷ 513 ∷ 0 ∷ []))

abbrev registers : ℕ → List ℤ → Bool
registers n rs = stacks_fit words (state true 2 11 n 4) (stacks rs (32768 ∷ 0 ∷ 257 ∷ 513 ∷ 0 ∷ []))

abbrev places : ℕ → List ℕ → Bool
places n ps = stacks_fit words (state true 2 11 7 n) (stacks (after_open ++ (m ∷ [])) ps)

left_by_run : counts 2 11 7 4 ≡ true
left_by_run = refl

-- the record's numbers, at their limits and past them. Tokens and moves are not compared with the stacks
tokens_limit_lem : map (λ t. counts t 11 7 4) (0 ∷ 65535 ∷ 65536 ∷ []) ≡ true ∷ true ∷ false ∷ []
tokens_limit_lem = refl

moves_limit_lem : map (λ n. counts 2 n 7 4) (0 ∷ 4294967295 ∷ 4294967296 ∷ []) ≡ true ∷ true ∷ false ∷ []
moves_limit_lem = refl

-- heights: one less, one more, above what is lent
register_heights : map (λ n. counts 2 11 n 4) (0 ∷ 6 ∷ 8 ∷ 9 ∷ []) ≡ replicate 4 false
register_heights = refl

place_heights : map (λ n. counts 2 11 7 n) (0 ∷ 3 ∷ 5 ∷ 6 ∷ []) ≡ replicate 4 false
place_heights = refl

no_place : stacks_fit words (state true 0 0 0 0) (stacks [] []) ≡ false
no_place = refl

height_above_lent : map (λ n. stacks_fit words (state true 0 0 n 1) (stacks (m ∷ []) (32768 ∷ []))) (1 ∷ 2 ∷ []) ≡ true ∷ false ∷ []
height_above_lent = refl

places_above_lent : map (λ n. stacks_fit words (state true 0 0 1 n) (stacks (m ∷ []) (32768 ∷ []))) (1 ∷ 2 ∷ []) ≡ true ∷ false ∷ []
places_above_lent = refl

-- ---- places

-- the bottom one is the whole segment's
bottom_place : map (λ p. places 4 (p ∷ 0 ∷ 257 ∷ 513 ∷ 0 ∷ [])) (32768 ∷ 32769 ∷ 0 ∷ 33024 ∷ 257 ∷ []) ≡ true ∷ false ∷ false ∷ false ∷ false ∷ []
bottom_place = refl

no_bottom_place : map (λ p. stacks_fit words (state true 0 0 2 1) (stacks (m ∷ pos 0 ∷ []) (p ∷ []))) (0 ∷ 257 ∷ []) ≡ false ∷ false ∷ []
no_bottom_place = refl

-- each other one stands on one that waits at its left side: 0 is S to L, 256, 512 and 768 are L's, 1024 is none
on_the_right_one : map (λ p. places 4 (32768 ∷ p ∷ 257 ∷ 513 ∷ 0 ∷ [])) (0 ∷ 1 ∷ 256 ∷ 513 ∷ 768 ∷ 1024 ∷ 32768 ∷ 32769 ∷ []) ≡ true ∷ replicate 7 false
on_the_right_one = refl

on_word : map (λ p. places 4 (32768 ∷ 0 ∷ p ∷ 513 ∷ 0 ∷ [])) (257 ∷ 256 ∷ 258 ∷ 512 ∷ 514 ∷ 1025 ∷ []) ≡ true ∷ replicate 5 false
on_word = refl

-- 513 and 515 are L to open L close L before its first and its second L: another L waits there, with other registers
second_list : stacks_fit words (state true 0 0 6 3) (stacks (m ∷ m ∷ pos 0 ∷ pos 5 ∷ m ∷ pos 0 ∷ []) (32768 ∷ 0 ∷ 515 ∷ [])) ≡ true
second_list = refl

-- the top one waits, too
top_place : map (λ p. places 4 (32768 ∷ 0 ∷ 257 ∷ p ∷ 0 ∷ [])) (513 ∷ 257 ∷ 512 ∷ 514 ∷ 516 ∷ 517 ∷ 258 ∷ 768 ∷ 1024 ∷ []) ≡ true ∷ true ∷ replicate 7 false
top_place = refl

-- at a token: no run stops there, but the facts hold
at_token_lem : map (λ p. stacks_fit words (state true 0 0 3 3) (stacks (m ∷ m ∷ pos 0 ∷ []) (32768 ∷ 0 ∷ p ∷ []))) (256 ∷ 512 ∷ 257 ∷ 768 ∷ []) ≡ true ∷ true ∷ false ∷ false ∷ []
at_token_lem = refl

-- 32,769 alone
start_left : stacks_fit words (state true 0 0 1 1) (stacks (pos 4 ∷ m ∷ []) (32769 ∷ 0 ∷ [])) ≡ true
start_left = refl

not_alone : map (λ ps. stacks_fit words (state true 0 0 1 2) (stacks (pos 4 ∷ m ∷ []) ps)) ((32768 ∷ 32769 ∷ []) ∷ (32769 ∷ 32769 ∷ []) ∷ (32769 ∷ 0 ∷ []) ∷ (0 ∷ 32769 ∷ []) ∷ []) ≡ replicate 4 false
not_alone = refl

-- its values stand, and no more
start_left_values : map (λ v. stacks_fit words (state true 0 0 1 1) (stacks (v ∷ []) (32769 ∷ []))) (pos 0 ∷ m ∷ pos 1000000000001 ∷ []) ≡ true ∷ false ∷ false ∷ []
start_left_values = refl

start_left_heights : map (λ n. stacks_fit words (state true 0 0 n 1) (stacks (pos 4 ∷ pos 4 ∷ []) (32769 ∷ []))) (0 ∷ 1 ∷ 2 ∷ []) ≡ false ∷ false ∷ false ∷ []
start_left_heights = refl

-- ---- registers

-- marked where the picture marks, valued where it values: each of the seven with the other in its place
marked_and_valued : map (registers 7) ((pos 0 ∷ m ∷ pos 0 ∷ m ∷ pos 0 ∷ m ∷ pos 1 ∷ m ∷ []) ∷ (m ∷ pos 0 ∷ pos 0 ∷ m ∷ pos 0 ∷ m ∷ pos 1 ∷ m ∷ [])
    ∷ (m ∷ m ∷ m ∷ m ∷ pos 0 ∷ m ∷ pos 1 ∷ m ∷ []) ∷ (m ∷ m ∷ pos 0 ∷ pos 0 ∷ pos 0 ∷ m ∷ pos 1 ∷ m ∷ []) ∷ (m ∷ m ∷ pos 0 ∷ m ∷ m ∷ m ∷ pos 1 ∷ m ∷ [])
    ∷ (m ∷ m ∷ pos 0 ∷ m ∷ pos 0 ∷ pos 0 ∷ pos 1 ∷ m ∷ []) ∷ (m ∷ m ∷ pos 0 ∷ m ∷ pos 0 ∷ m ∷ m ∷ m ∷ []) ∷ []) ≡ replicate 7 false
marked_and_valued = refl

-- only the mark is marked
next_to_mark : map (λ v. registers 7 (v ∷ m ∷ pos 0 ∷ m ∷ pos 0 ∷ m ∷ pos 1 ∷ m ∷ [])) (m ∷ negsuc 9223372036854775806 ∷ negsuc 9223372036854775808 ∷ negsuc 1000000000000 ∷ negsuc 0 ∷ []) ≡ true ∷ replicate 4 false
next_to_mark = refl

-- any value in range will do: no run leaves these
values_in_range : map (λ v. registers 7 (m ∷ m ∷ pos 0 ∷ m ∷ pos 0 ∷ m ∷ v ∷ m ∷ [])) (pos 1000000000000 ∷ negsuc 999999999999 ∷ pos 1000000000001 ∷ negsuc 1000000000000 ∷ []) ≡ true ∷ true ∷ false ∷ false ∷ []
values_in_range = refl

one_too_many : registers 8 (after_open ++ (pos 1 ∷ [])) ≡ false
one_too_many = refl

-- what a symbol already passed has synthesized is valued; what the waiting one will synthesize is marked: X to Y 0 X Y at X
passed_and_waiting : map (λ rs. stacks_fit wide (state true 2 14 9 3) (stacks rs (32768 ∷ 0 ∷ 258 ∷ [])))
    ((m ∷ m ∷ pos 4 ∷ pos 3 ∷ pos 8 ∷ pos 7 ∷ m ∷ pos 3 ∷ pos 7 ∷ []) ∷ (m ∷ m ∷ pos 4 ∷ pos 3 ∷ m ∷ pos 7 ∷ m ∷ pos 3 ∷ pos 7 ∷ [])
    ∷ (m ∷ m ∷ pos 4 ∷ pos 3 ∷ pos 8 ∷ m ∷ m ∷ pos 3 ∷ pos 7 ∷ []) ∷ (m ∷ m ∷ pos 4 ∷ pos 3 ∷ pos 8 ∷ pos 7 ∷ pos 9 ∷ pos 3 ∷ pos 7 ∷ [])
    ∷ (m ∷ m ∷ pos 4 ∷ pos 3 ∷ pos 8 ∷ pos 7 ∷ m ∷ m ∷ pos 7 ∷ []) ∷ (m ∷ pos 9 ∷ pos 4 ∷ pos 3 ∷ pos 8 ∷ pos 7 ∷ m ∷ pos 3 ∷ pos 7 ∷ []) ∷ [])
    ≡ true ∷ replicate 5 false
passed_and_waiting = refl

-- ---- the rest is cleared, up to what is lent now, and no further

registers_cleared_lem : map (λ v. registers 7 (after_open ++ (m ∷ v ∷ []))) (m ∷ pos 0 ∷ negsuc 9223372036854775806 ∷ []) ≡ true ∷ false ∷ false ∷ []
registers_cleared_lem = refl

places_cleared_lem : map (λ p. places 4 (32768 ∷ 0 ∷ 257 ∷ 513 ∷ 0 ∷ p ∷ [])) (0 ∷ 1 ∷ 32768 ∷ []) ≡ true ∷ false ∷ false ∷ []
places_cleared_lem = refl

cleared_to_caps : stacks_fit words (state true 2 11 7 4) (stacks (after_open ++ (replicate 4089 m ++ (pos 0 ∷ []))) ((32768 ∷ 0 ∷ 257 ∷ 513 ∷ []) ++ (replicate 1020 0 ++ (9 ∷ [])))) ≡ true
cleared_to_caps = refl

not_cleared_to_caps : stacks_fit words (state true 2 11 7 4) (stacks (after_open ++ (replicate 4088 m ++ (pos 0 ∷ []))) (32768 ∷ 0 ∷ 257 ∷ 513 ∷ [])) ≡ false
not_cleared_to_caps = refl

place_not_cleared_to_caps : stacks_fit words (state true 2 11 7 4) (stacks after_open ((32768 ∷ 0 ∷ 257 ∷ 513 ∷ []) ++ (replicate 1019 0 ++ (9 ∷ [])))) ≡ false
place_not_cleared_to_caps = refl

-- ---- the call: record and stacks as brought, 0 tokens

unfit_feed : map (λ ts. feed_kinds words (state true 2 11 7 4) (stacks (m ∷ m ∷ m ∷ []) (32768 ∷ 0 ∷ [])) ts) ([] ∷ (0 ∷ []) ∷ (255 ∷ []) ∷ []) ≡ replicate 3 (called (refused 34 0) (state true 2 11 7 4) (stacks (m ∷ m ∷ m ∷ []) (32768 ∷ 0 ∷ [])))
unfit_feed = refl

unfit_finish : finish_of words (state true 2 11 7 4) (stacks (m ∷ m ∷ m ∷ []) (32768 ∷ 0 ∷ [])) ≡ called (refused 34 0) (state true 2 11 7 4) (stacks (m ∷ m ∷ m ∷ []) (32768 ∷ 0 ∷ []))
unfit_finish = refl

-- forged stacks go on from where they stand: at the token word, with d = 9, L to open L close L is not entered
forged_at_word : feed_kinds words (state true 0 0 3 3) (stacks (m ∷ m ∷ pos 9 ∷ m ∷ m ∷ []) (32768 ∷ 0 ∷ 256 ∷ [])) (0 ∷ []) ≡ called (more 3) (state true 1 3 5 3) (stacks (m ∷ m ∷ pos 9 ∷ m ∷ pos 9 ∷ []) (32768 ∷ 0 ∷ 257 ∷ []))
forged_at_word = refl

forged_condition : (feed_kinds words (state true 0 0 5 3) (stacks (m ∷ m ∷ pos 9 ∷ m ∷ pos 9 ∷ []) (32768 ∷ 0 ∷ 257 ∷ [])) (1 ∷ [])).answer ≡ refused 22 0
forged_condition = refl

-- another table: 34 alone decides
other_table : map (λ g. (feed_kinds g (open_of words (stacks (pos 7 ∷ []) (9 ∷ []))).state (open_of words (stacks (pos 7 ∷ []) (9 ∷ []))).stacks []).answer) (words ∷ wide ∷ []) ≡ more 0 ∷ more 0 ∷ []
other_table = refl

other_table_unfit : (feed_kinds wide (state true 2 11 7 4) (stacks after_open (32768 ∷ 0 ∷ 257 ∷ 513 ∷ [])) []).answer ≡ refused 34 0
other_table_unfit = refl

-- ---- the declarative form

declared : Fit words (state true 2 11 7 4) (stacks after_open (32768 ∷ 0 ∷ 257 ∷ 513 ∷ []))
declared = record {
  tokens = lit≤ tt;
  moves = lit≤ tt;
  register_height = lit≤ tt;
  place_height = lit≤ tt;
  stands = inl (
    nonterminal 1,
    inside 2 1 (pos 1 ∷ []) [] (lit< tt) (lit< tt) (lit< tt) (record { size = refl; ranged = tt }) (record { size = refl; ranged = tt })
        (inside 1 1 (pos 0 ∷ []) [] (lit< tt) (lit< tt) (lit< tt) (record { size = refl; ranged = tt }) (record { size = refl; ranged = tt })
        (inside 0 0 (pos 0 ∷ []) [] (lit< tt) (lit< tt) (lit< tt) (record { size = refl; ranged = tt }) (record { size = refl; ranged = tt })
        (segment [] (record { size = refl; ranged = tt })))),
  );
  registers_cleared = λ i l h. absurd (omega (arith, l, h));
  places_cleared = λ i l h. absurd (omega (arith, l, h));
}

-- before the second list of L to open L close L: what the first has synthesized lies between
declared_passed : Fit words (state true 0 0 6 3) (stacks (m ∷ m ∷ pos 0 ∷ pos 5 ∷ m ∷ pos 3 ∷ []) (32768 ∷ 0 ∷ 515 ∷ []))
declared_passed = record {
  tokens = lit≤ tt;
  moves = lit≤ tt;
  register_height = lit≤ tt;
  place_height = lit≤ tt;
  stands = inl (
    nonterminal 1,
    inside 2 3 (pos 3 ∷ []) (pos 5 ∷ []) (lit< tt) (lit< tt) (lit< tt) (record { size = refl; ranged = tt }) (record { size = refl; ranged = tt })
        (inside 0 0 (pos 0 ∷ []) [] (lit< tt) (lit< tt) (lit< tt) (record { size = refl; ranged = tt }) (record { size = refl; ranged = tt })
        (segment [] (record { size = refl; ranged = tt }))),
  );
  registers_cleared = λ i l h. absurd (omega (arith, l, h));
  places_cleared = λ i l h. absurd (omega (arith, l, h));
}

declared_left : Fit words (state true 2 11 1 1) (stacks (pos 4 ∷ []) (32769 ∷ []))
declared_left = record {
  tokens = lit≤ tt;
  moves = lit≤ tt;
  register_height = lit≤ tt;
  place_height = lit≤ tt;
  stands = inr (record { place = refl; results = record { size = refl; ranged = tt } });
  registers_cleared = λ i l h. absurd (omega (arith, l, h));
  places_cleared = λ i l h. absurd (omega (arith, l, h));
}
