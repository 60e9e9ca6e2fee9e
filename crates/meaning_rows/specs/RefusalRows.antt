-- Refusals of a segment and of the state, 20 to 24, 31 to 33 and 35: number, tokens, record and every cell; and which comes first.
use Rattle.std.specs.Prelude.{ℕ, ◌≡◌, refl, true, false, List, [], ◌∷◌, map, replicate, ℤ, pos}
use Rattle.meaning.specs.Grammar.{terminal, nonterminal, const, copy, range, Grammar}
use Rattle.meaning.specs.Calls.{Called, more, value, refused, open_of, finish_of}
use Rattle.meaning.specs.Examples.WordsAndTags.{words, p0, p1, p2, occ, rule}
use Rattle.meaning.specs.Examples.SchemeRows.{wide}
use Rattle.meaning.specs.Examples.CallRows.{m, state, stacks, called, used, feed_kinds, then_feed, then_finish}
use Rattle.meaning.specs.Examples.RefusalRows.{sums}

-- ---- 20: not below T, judged before its moves; what was read before stands, the rest of the list is ignored

unknown_second : then_feed words (0 ∷ 3 ∷ 0 ∷ []) (open_of words (used 8 5)) ≡ called (refused 20 1) (state false 1 7 5 3) (stacks (m ∷ m ∷ pos 0 ∷ m ∷ pos 0 ∷ m ∷ m ∷ m ∷ []) (32768 ∷ 0 ∷ 257 ∷ 0 ∷ 0 ∷ []))
unknown_second = refl

-- ---- 21: in no alternative's set, not the expected one, after the start symbol is left

no_alternative : then_feed wide (0 ∷ []) (open_of wide (used 2 2)) ≡ called (refused 21 0) (state false 0 0 1 1) (stacks (m ∷ m ∷ []) (32768 ∷ 0 ∷ []))
no_alternative = refl

-- 0 is expected after Y
not_expected_lem : then_feed wide (2 ∷ 1 ∷ []) (open_of wide (used 12 4)) ≡ called (refused 21 1) (state false 1 11 6 3) (stacks (m ∷ m ∷ pos 4 ∷ pos 3 ∷ pos 8 ∷ pos 7 ∷ m ∷ m ∷ m ∷ m ∷ m ∷ m ∷ []) (32768 ∷ 0 ∷ 257 ∷ 0 ∷ []))
not_expected_lem = refl

-- word close: the moves for the close that need no token of their own are made
after_start_left : then_feed words (0 ∷ 2 ∷ []) (open_of words (used 8 5)) ≡ called (refused 21 1) (state false 1 14 1 1) (stacks (pos 1 ∷ replicate 7 m) (32769 ∷ 0 ∷ 0 ∷ 0 ∷ 0 ∷ []))
after_start_left = refl

-- ---- 22: no alternative that holds the token is entered

fourth_open_lem : then_feed words (1 ∷ 1 ∷ 1 ∷ 1 ∷ []) (open_of words (used 12 6)) ≡ called (refused 22 3) (state false 3 15 9 5) (stacks (m ∷ m ∷ pos 0 ∷ m ∷ pos 1 ∷ m ∷ pos 2 ∷ m ∷ pos 3 ∷ m ∷ m ∷ m ∷ []) (32768 ∷ 0 ∷ 513 ∷ 513 ∷ 513 ∷ 0 ∷ []))
fourth_open_lem = refl

-- S to A 0, where n of A must be 0; A to 0, where it is n
abbrev tested : ℤ → Grammar
tested n = record {
  terminals = 1;
  counts = record { inherited = 0; synthesized = 1 } ∷ record { inherited = 0; synthesized = 1 } ∷ [];
  carrying = [];
  start = 0;
  result = 1;
  productions =
      record { left = 0; right = nonterminal 1 ∷ terminal 0 ∷ []; rules = rule (occ 0 1) (copy (occ 1 1)) ∷ []; conditions = range (occ 1 1) (pos 0) (pos 0) ∷ [] }
      ∷ record { left = 1; right = terminal 0 ∷ []; rules = rule (occ 0 1) (const n) ∷ []; conditions = [] }
      ∷ [];
}

-- the failed test leaves its place uncounted: 0, not 1
test_fails : then_feed (tested (pos 1)) (0 ∷ 0 ∷ []) (open_of (tested (pos 1)) (used 4 4)) ≡ called (refused 22 1) (state false 1 6 2 2) (stacks (m ∷ pos 1 ∷ m ∷ m ∷ []) (32768 ∷ 0 ∷ 0 ∷ 0 ∷ []))
test_fails = refl

test_holds : then_feed (tested (pos 0)) (0 ∷ []) (open_of (tested (pos 0)) (used 4 4)) ≡ called (more 7) (state true 1 7 2 2) (stacks (m ∷ pos 0 ∷ m ∷ m ∷ []) (32768 ∷ 1 ∷ 0 ∷ 0 ∷ []))
test_holds = refl

-- S to L with d = v; L to A by either of two productions, entered for d from 0 to 4 and from 5 to 9. Both ask that n of A is 0; A to nothing, and n is 1
abbrev two_ways : ℤ → ℤ → Grammar
two_ways v n = record {
  terminals = 1;
  counts = record { inherited = 0; synthesized = 1 } ∷ record { inherited = 1; synthesized = 1 } ∷ record { inherited = 0; synthesized = 1 } ∷ [];
  carrying = [];
  start = 0;
  result = 1;
  productions =
      record { left = 0; right = nonterminal 1 ∷ []; rules = rule (occ 1 1) (const v) ∷ rule (occ 0 1) (copy (occ 1 2)) ∷ []; conditions = [] }
      ∷ record { left = 1; right = nonterminal 2 ∷ []; rules = rule (occ 0 2) (const (pos 5)) ∷ []; conditions = range (occ 0 1) (pos 0) (pos 4) ∷ range (occ 1 1) (pos 0) (pos 0) ∷ [] }
      ∷ record { left = 1; right = nonterminal 2 ∷ []; rules = rule (occ 0 2) (const (pos 6)) ∷ []; conditions = range (occ 0 1) (pos 5) (pos 9) ∷ range (occ 1 1) (pos 0) (pos 0) ∷ [] }
      ∷ record { left = 2; right = []; rules = rule (occ 0 1) (const n) ∷ []; conditions = [] }
      ∷ [];
}

enters_first : then_finish (two_ways (pos 4) (pos 0)) (open_of (two_ways (pos 4) (pos 0)) (used 5 4)) ≡ called (value (pos 5) 13) (state false 0 13 1 1) (stacks (pos 5 ∷ m ∷ m ∷ m ∷ m ∷ []) (32769 ∷ 0 ∷ 0 ∷ 0 ∷ []))
enters_first = refl

enters_second : (then_finish (two_ways (pos 5) (pos 0)) (open_of (two_ways (pos 5) (pos 0)) (used 5 4))).answer ≡ value (pos 6) 13
enters_second = refl

-- none is entered, at the end
enters_none : map (λ v. then_finish (two_ways v (pos 0)) (open_of (two_ways v (pos 0)) (used 5 4))) (pos 10 ∷ []) ≡ called (refused 22 0) (state false 0 3 3 2) (stacks (m ∷ m ∷ pos 10 ∷ m ∷ m ∷ []) (32768 ∷ 0 ∷ 0 ∷ 0 ∷ [])) ∷ []
enters_none = refl

-- a condition that fails later does not bring the other production in
no_second_try : then_finish (two_ways (pos 4) (pos 1)) (open_of (two_ways (pos 4) (pos 1)) (used 5 4)) ≡ called (refused 22 0) (state false 0 8 4 3) (stacks (m ∷ m ∷ pos 4 ∷ pos 1 ∷ m ∷ []) (32768 ∷ 0 ∷ 256 ∷ 0 ∷ []))
no_second_try = refl

-- ---- 23: a value outside the limits. S to 0 with two attributes; A to 0 hands up v

-- evaluated all or none: the first attribute would be 1000000000000, the second 1000000000001
too_great : then_feed (sums (pos 999999999999) (pos 2)) (0 ∷ []) (open_of (sums (pos 999999999999) (pos 2)) (used 4 4)) ≡ called (refused 23 1) (state false 1 6 3 2) (stacks (m ∷ m ∷ pos 999999999999 ∷ m ∷ []) (32768 ∷ 1 ∷ 0 ∷ 0 ∷ []))
too_great = refl

great_enough : then_feed (sums (pos 999999999999) (pos 1)) (0 ∷ []) (open_of (sums (pos 999999999999) (pos 1)) (used 4 4)) ≡ called (more 8) (state true 1 8 2 1) (stacks (pos 1000000000000 ∷ pos 1000000000000 ∷ m ∷ m ∷ []) (32769 ∷ 0 ∷ 0 ∷ 0 ∷ []))
great_enough = refl

-- 01's grammar of words and tags with a count that starts at c
abbrev counted : ℤ → Grammar
counted c = record { terminals = 3; counts = words.counts; carrying = []; start = 0; result = 1; productions = p0 ∷ p1 ∷ p2 ∷ record { left = 1; right = []; rules = rule (occ 0 2) (const c) ∷ []; conditions = [] } ∷ [] }

-- 02 (d): "A count that starts at 2,147,483,647 now gives 2,147,483,648 after one word"
past_32_bits : (then_finish (counted (pos 2147483647)) (then_feed (counted (pos 2147483647)) (0 ∷ []) (open_of (counted (pos 2147483647)) (used 8 5)))).answer ≡ value (pos 2147483648) 14
past_32_bits = refl

-- a constant too
constant_too_great : (then_feed (sums (pos 1000000000001) (pos 0)) (0 ∷ []) (open_of (sums (pos 1000000000001) (pos 0)) (used 4 4))).answer ≡ refused 23 1
constant_too_great = refl

-- ---- 24: over where a token is expected, or where no alternative holds the end

close_expected : then_finish words (then_feed words (1 ∷ []) (open_of words (used 8 5))) ≡ called (refused 24 1) (state false 1 10 4 3) (stacks (m ∷ m ∷ pos 0 ∷ pos 0 ∷ m ∷ m ∷ m ∷ m ∷ []) (32768 ∷ 0 ∷ 514 ∷ 0 ∷ 0 ∷ []))
close_expected = refl

no_end : then_finish wide (open_of wide (used 2 2)) ≡ called (refused 24 0) (state false 0 0 1 1) (stacks (m ∷ m ∷ []) (32768 ∷ 0 ∷ []))
no_end = refl

-- ---- 31 and 32: at the opening nothing is written, and 31 comes first

open_short_of_registers : open_of (sums (pos 0) (pos 0)) (used 1 0) ≡ called (refused 31 0) (state false 0 0 0 0) (used 1 0)
open_short_of_registers = refl

open_without_places : open_of words (used 1 0) ≡ called (refused 32 0) (state false 0 0 0 0) (used 1 0)
open_without_places = refl

-- later the moves before stand
two_registers_lem : then_finish words (open_of words (used 2 3)) ≡ called (refused 31 0) (state false 0 1 1 2) (stacks (m ∷ m ∷ []) (32768 ∷ 0 ∷ 0 ∷ []))
two_registers_lem = refl

two_places_lem : then_finish words (open_of words (used 3 2)) ≡ called (refused 32 0) (state false 0 3 3 2) (stacks (m ∷ m ∷ pos 0 ∷ []) (32768 ∷ 0 ∷ []))
two_places_lem = refl

registers_in_feed : then_feed words (0 ∷ 0 ∷ []) (open_of words (used 5 5)) ≡ called (refused 31 2) (state false 2 9 5 4) (stacks (m ∷ m ∷ pos 0 ∷ m ∷ pos 0 ∷ []) (32768 ∷ 0 ∷ 257 ∷ 257 ∷ 0 ∷ []))
registers_in_feed = refl

places_in_feed : then_feed words (0 ∷ 0 ∷ []) (open_of words (used 9 3)) ≡ called (refused 32 1) (state false 1 7 5 3) (stacks (m ∷ m ∷ pos 0 ∷ m ∷ pos 0 ∷ m ∷ m ∷ m ∷ m ∷ []) (32768 ∷ 0 ∷ 257 ∷ []))
places_in_feed = refl

-- inside one predict: 21 or 24, then 22, then 32. Three places are lent and stand; the top one waits at L with d = 3
at_inner : List ℕ → Called
at_inner ts = feed_kinds words (state true 1 7 5 3) (stacks (m ∷ m ∷ pos 3 ∷ m ∷ pos 3 ∷ []) (32768 ∷ 0 ∷ 257 ∷ [])) ts

condition_before_place : (at_inner (1 ∷ [])).answer ≡ refused 22 1
unfolding at_inner
condition_before_place = refl

place_last : (at_inner (0 ∷ [])).answer ≡ refused 32 1
unfolding at_inner
place_last = refl

token_before_place : (then_feed wide (0 ∷ []) (open_of wide (used 1 1))).answer ≡ refused 21 0
token_before_place = refl

end_before_place : (then_finish wide (open_of wide (used 1 1))).answer ≡ refused 24 0
end_before_place = refl

-- ---- 33: a closed record, whatever else it holds; nothing changes, and 0 tokens

closed_feed : map (λ ts. feed_kinds words (state false 9 9 9 9) (used 1 1) ts) ([] ∷ (0 ∷ []) ∷ (255 ∷ []) ∷ []) ≡ replicate 3 (called (refused 33 0) (state false 9 9 9 9) (used 1 1))
closed_feed = refl

closed_finish : finish_of words (state false 9 9 9 9) (used 1 1) ≡ called (refused 33 0) (state false 9 9 9 9) (used 1 1)
closed_finish = refl

finished_twice : then_finish words (then_finish words (open_of words (used 3 3))) ≡ called (refused 33 0) (state false 0 8 1 1) (stacks (pos 0 ∷ m ∷ m ∷ []) (32769 ∷ 0 ∷ 0 ∷ []))
finished_twice = refl

-- 34 before the moves and their refusals
unfit_before_token : map (λ ts. (feed_kinds words (state true 65535 4294967295 0 0) (used 2 2) ts).answer) ([] ∷ (0 ∷ []) ∷ (255 ∷ []) ∷ []) ≡ replicate 3 (refused 34 0)
unfit_before_token = refl

-- ---- 35: tokens and moves

-- at an opened run with these counts; on the start symbol left with these counts
at_start : ℕ → ℕ → List ℕ → Called
at_start t n ts = feed_kinds words (state true t n 1 1) (stacks (m ∷ m ∷ m ∷ []) (32768 ∷ 0 ∷ [])) ts

at_end_lem : ℕ → ℕ → List ℕ → Called
at_end_lem t n ts = feed_kinds words (state true t n 1 1) (stacks (pos 4 ∷ []) (32769 ∷ [])) ts

-- the 65,536th token: before 20, before 21, before any move
token_limit : map (λ t. at_start 65535 0 (t ∷ [])) (0 ∷ 2 ∷ 200 ∷ []) ≡ replicate 3 (called (refused 35 65535) (state false 65535 0 1 1) (stacks (m ∷ m ∷ m ∷ []) (32768 ∷ 0 ∷ [])))
unfolding at_start
token_limit = refl

token_limit_after_start : map (λ t. (at_end_lem 65535 0 (t ∷ [])).answer) (0 ∷ 200 ∷ []) ≡ replicate 2 (refused 35 65535)
unfolding at_end_lem
token_limit_after_start = refl

last_token : at_start 65534 0 (0 ∷ []) ≡ called (refused 32 65534) (state false 65534 3 3 2) (stacks (m ∷ m ∷ pos 0 ∷ []) (32768 ∷ 0 ∷ []))
unfolding at_start
last_token = refl

-- no token at hand: no 35
token_limit_empty : (at_start 65535 0 []).answer ≡ more 0
unfolding at_start
token_limit_empty = refl

token_limit_finish : (finish_of words (state true 65535 0 1 1) (stacks (pos 4 ∷ []) (32769 ∷ []))).answer ≡ value (pos 4) 0
token_limit_finish = refl

-- 20 before the 35 of a move
unknown_before_move : (at_start 0 4294967295 (200 ∷ [])).answer ≡ refused 20 0
unfolding at_start
unknown_before_move = refl

-- the move limit: before 21 and 24; but a token after the start symbol is left needs no move
move_limit : map (λ t. at_start 7 4294967295 (t ∷ [])) (0 ∷ 2 ∷ []) ≡ replicate 2 (called (refused 35 7) (state false 7 4294967295 1 1) (stacks (m ∷ m ∷ m ∷ []) (32768 ∷ 0 ∷ [])))
unfolding at_start
move_limit = refl

move_limit_end : (finish_of wide (state true 7 4294967295 1 1) (stacks (m ∷ []) (32768 ∷ []))).answer ≡ refused 35 7
move_limit_end = refl

move_limit_after_start : at_end_lem 7 4294967295 (0 ∷ []) ≡ called (refused 21 7) (state false 7 4294967295 1 1) (stacks (pos 4 ∷ []) (32769 ∷ []))
unfolding at_end_lem
move_limit_after_start = refl

move_limit_finished : finish_of words (state true 7 4294967295 1 1) (stacks (pos 4 ∷ []) (32769 ∷ [])) ≡ called (value (pos 4) 4294967295) (state false 7 4294967295 1 1) (stacks (pos 4 ∷ []) (32769 ∷ []))
move_limit_finished = refl

-- before 22 and before 32
move_limit_condition : (feed_kinds words (state true 1 4294967295 5 3) (stacks (m ∷ m ∷ pos 3 ∷ m ∷ pos 3 ∷ []) (32768 ∷ 0 ∷ 257 ∷ [])) (1 ∷ [])).answer ≡ refused 35 1
move_limit_condition = refl

move_limit_place : (feed_kinds words (state true 1 4294967295 5 3) (stacks (m ∷ m ∷ pos 3 ∷ m ∷ pos 3 ∷ []) (32768 ∷ 0 ∷ 257 ∷ [])) (0 ∷ [])).answer ≡ refused 35 1
move_limit_place = refl

-- the last move allowed is made; before 31: one register is lent, and the next move would be an add
last_move : feed_kinds words (state true 0 4294967294 1 1) (stacks (m ∷ []) (32768 ∷ 0 ∷ [])) (0 ∷ []) ≡ called (refused 35 0) (state false 0 4294967295 1 2) (stacks (m ∷ []) (32768 ∷ 0 ∷ []))
last_move = refl

-- before 23: S's value would be too great
move_limit_value : feed_kinds (sums (pos 1000000000000) (pos 0)) (state true 0 4294967289 2 1) (stacks (m ∷ m ∷ m ∷ []) (32768 ∷ 0 ∷ 0 ∷ [])) (0 ∷ []) ≡ called (refused 35 1) (state false 1 4294967295 3 2) (stacks (m ∷ m ∷ pos 1000000000000 ∷ []) (32768 ∷ 1 ∷ 0 ∷ []))
move_limit_value = refl

-- exactly enough moves: 8 for no tokens
enough_moves : (finish_of words (state true 0 4294967287 1 1) (stacks (m ∷ m ∷ m ∷ []) (32768 ∷ 0 ∷ 0 ∷ []))).answer ≡ value (pos 0) 4294967295
enough_moves = refl

one_move_short : finish_of words (state true 0 4294967288 1 1) (stacks (m ∷ m ∷ m ∷ []) (32768 ∷ 0 ∷ 0 ∷ [])) ≡ called (refused 35 0) (state false 0 4294967295 2 2) (stacks (pos 0 ∷ pos 0 ∷ m ∷ []) (32768 ∷ 1 ∷ 0 ∷ []))
one_move_short = refl
