-- Refusals of a segment and of the state: 20, 23, 31, 33, 34, 35, 40, and the result that the header names.
use Rattle.std.specs.Prelude.{◌≡◌, refl, true, false, List, [], ◌∷◌, map, replicate, ℤ, pos, negsuc}
use Rattle.meaning.specs.Grammar.{terminal, nonterminal, const, addc, Grammar}
use Rattle.meaning.specs.Calls.{running, waiting, outer, inner, Record, Answer, value, refused, closed_record, open_of, feed_of, finish_of}
use Rattle.meaning.specs.Examples.WordsAndTags.{words, occ, rule}
use Rattle.meaning.specs.Examples.SchemeRows.{wide}
use Rattle.meaning.specs.Examples.CallRows.{m, state, record_of, stacks, called, used, feed_kinds, then_feed, then_finish}

-- ---- 20: not below T, judged before its moves

unknown_token_lem : map (λ t. then_feed words (t ∷ []) (open_of words (used 3 2))) (3 ∷ 255 ∷ []) ≡ replicate 2 (called (refused 20 0) (state false 0 0 1 1) (stacks (m ∷ m ∷ m ∷ []) (32768 ∷ 0 ∷ [])))
unknown_token_lem = refl

-- ---- 23: a value outside the limits. S to 0 with two attributes; A to 0 hands up v

abbrev pub sums : ℤ → ℤ → Grammar
sums a b = record {
  terminals = 1;
  counts = record { inherited = 0; synthesized = 2 } ∷ record { inherited = 0; synthesized = 1 } ∷ [];
  carrying = [];
  start = 0;
  result = 1;
  productions =
      record { left = 0; right = nonterminal 1 ∷ []; rules = rule (occ 0 1) (addc (occ 1 1) (pos 1)) ∷ rule (occ 0 2) (addc (occ 1 1) b) ∷ []; conditions = [] }
      ∷ record { left = 1; right = terminal 0 ∷ []; rules = rule (occ 0 1) (const a) ∷ []; conditions = [] }
      ∷ [];
}

too_low : (then_feed (sums (negsuc 999999999999) (negsuc 0)) (0 ∷ []) (open_of (sums (negsuc 999999999999) (negsuc 0)) (used 4 4))).answer ≡ refused 23 1
too_low = refl

-- the result is the attribute that the header names
second_result : (then_finish (record { terminals = 1; counts = (sums (pos 5) (pos 9)).counts; carrying = []; start = 0; result = 2; productions = (sums (pos 5) (pos 9)).productions }) (then_feed (sums (pos 5) (pos 9)) (0 ∷ []) (open_of (sums (pos 5) (pos 9)) (used 4 4)))).answer ≡ value (pos 14) 8
second_result = refl

-- ---- 31 and 32: at the opening nothing is written, and 31 comes first

open_without_registers : map (λ n. open_of words (used 0 n)) (0 ∷ 1 ∷ []) ≡ called (refused 31 0) closed_record (used 0 0) ∷ called (refused 31 0) closed_record (used 0 1) ∷ []
open_without_registers = refl

-- ---- 33 before 34: these stacks do not fit either

closed_before_unfit : (feed_kinds words (state false 0 0 0 0) (used 2 2) (0 ∷ [])).answer ≡ refused 33 0
closed_before_unfit = refl

-- ---- 40 and 34: a call on an outer run that waits, and one that brings an inner record; the stacks of the feed fit

abbrev pub ordinary : Record → List Answer
ordinary r = (feed_of words r (then_feed words (0 ∷ 1 ∷ []) (open_of words (used 7 4))).stacks [] []).answer ∷ (finish_of words r (used 2 2)).answer ∷ []

waiting_is_40 : ordinary (record_of waiting outer 2 11 7 4) ≡ replicate 2 (refused 40 0)
waiting_is_40 = refl

inner_is_34 : map (λ s. ordinary (record_of s (inner 0 0) 2 11 7 4)) (running ∷ waiting ∷ []) ≡ replicate 2 (replicate 2 (refused 34 0))
inner_is_34 = refl

-- ---- 35 before 21: the move limit

move_limit_no_alternative : (feed_kinds wide (state true 7 4294967295 1 1) (stacks (m ∷ []) (32768 ∷ [])) (0 ∷ [])).answer ≡ refused 35 7
move_limit_no_alternative = refl
