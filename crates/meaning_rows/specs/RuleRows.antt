-- The table's rules and conditions: what they are read as, refusals 4, 5 and 7 to 10, and their order.
use Rattle.std.specs.Prelude.{ℕ, suc, ◌≡◌, refl, List, [], ◌∷◌, ◌++◌, map, replicate, pos, negsuc}
use Rattle.std.proofs.Math.Option.{none}
use Rattle.meaning.specs.Grammar.{const, copy, binary, sum, diff, prod, maxi, mini, addc, quot, range, atmost, terminal, nonterminal}
use Rattle.meaning.specs.Table.{read_table}
use Rattle.meaning.specs.Judgement.{Verdict, accepted, rejected}
use Rattle.meaning.specs.Decide.{verdict_of}
use Rattle.meaning.specs.Layout.{field}
use Rattle.meaning.specs.Examples.WordsAndTags.{occ, rule}
use Rattle.meaning.specs.Examples.TableRows.{grammar}
use Rattle.meaning.specs.Examples.Samples.{header, counts, hand_down, hand_up, first_production, a_to_token, in_first, in_last, functions}

-- ---- what is read

-- each function by its number, constants with their sign, conditions beside the rules
functions_read : grammar (read_table functions) ≡ record {
  terminals = 1;
  counts = record { inherited = 0; synthesized = 8 } ∷ record { inherited = 1; synthesized = 2 } ∷ [];
  carrying = [];
  start = 0;
  result = 8;
  productions = record {
    left = 0;
    right = nonterminal 1 ∷ [];
    rules = rule (occ 1 1) (const (negsuc 6)) ∷ rule (occ 0 1) (copy (occ 1 2)) ∷ rule (occ 0 2) (binary sum (occ 1 2) (occ 1 3))
        ∷ rule (occ 0 3) (binary diff (occ 1 2) (occ 1 3)) ∷ rule (occ 0 4) (binary prod (occ 1 2) (occ 1 3)) ∷ rule (occ 0 5) (binary maxi (occ 1 2) (occ 1 3))
        ∷ rule (occ 0 6) (binary mini (occ 1 2) (occ 1 3)) ∷ rule (occ 0 7) (addc (occ 1 2) (negsuc 499)) ∷ rule (occ 0 8) (quot (occ 1 2) (pos 1000000)) ∷ [];
    conditions = range (occ 1 2) (negsuc 2147483647) (pos 2147483647) ∷ atmost (occ 1 2) (occ 1 3) none ∷ [];
  } ∷ record { left = 1; right = terminal 0 ∷ []; rules = rule (occ 0 2) (copy (occ 0 1)) ∷ rule (occ 0 3) (const (pos 2)) ∷ []; conditions = [] } ∷ [];
}
unfolding functions grammar
functions_read = refl

functions_accepted : verdict_of functions ≡ accepted
unfolding functions
functions_accepted = refl

-- ---- 4: lengths. The target (9, 9) is unknown: with the right length it is a 5

-- a rule of function f with n bytes after it, and with one less and one more
lengths : ℕ → ℕ → List Verdict
lengths f n = map (λ k. in_first (field 4 (9 ∷ 9 ∷ f ∷ replicate k 0))) (n ∷ (suc n) ∷ (suc (suc n)) ∷ [])

fit_once : List Verdict
fit_once = rejected 4 23 ∷ rejected 5 23 ∷ rejected 4 23 ∷ []

const_length : lengths 0 3 ≡ fit_once
unfolding lengths fit_once
const_length = refl

copy_length : lengths 1 1 ≡ fit_once
unfolding lengths fit_once
copy_length = refl

two_operands_length : map (λ f. lengths f 3) (2 ∷ 3 ∷ 4 ∷ 5 ∷ 6 ∷ []) ≡ replicate 5 fit_once
unfolding lengths fit_once
two_operands_length = refl

addc_length : lengths 7 5 ≡ fit_once
unfolding lengths fit_once
addc_length = refl

quot_length : map (λ bs. in_first (field 4 (9 ∷ 9 ∷ 8 ∷ bs))) ((1 ∷ 2 ∷ 0 ∷ 0 ∷ 1 ∷ []) ∷ (1 ∷ 2 ∷ 0 ∷ 0 ∷ 0 ∷ 1 ∷ []) ∷ (1 ∷ 2 ∷ 0 ∷ 0 ∷ 0 ∷ 1 ∷ 0 ∷ []) ∷ []) ≡ fit_once
unfolding fit_once
quot_length = refl

rule_too_short : map (λ bs. in_first (field 4 bs)) ([] ∷ (0 ∷ []) ∷ (0 ∷ 1 ∷ []) ∷ []) ≡ replicate 3 (rejected 4 23)
rule_too_short = refl

-- an unknown function has any length that holds it
unknown_function : map (λ bs. in_first (field 4 bs)) ((1 ∷ 1 ∷ 9 ∷ []) ∷ (1 ∷ 1 ∷ 9 ∷ 0 ∷ []) ∷ (9 ∷ 9 ∷ 255 ∷ []) ∷ (1 ∷ 1 ∷ 9 ∷ replicate 300 0) ∷ []) ≡ replicate 4 (rejected 5 23)
unknown_function = refl

-- quot's constant, 0, 1, 1000000, 1000001, -1: the good ones leave d of A without a rule
quot_constant : map (λ c. in_first (field 4 (0 ∷ 1 ∷ 8 ∷ 1 ∷ 2 ∷ c))) ((0 ∷ 0 ∷ 0 ∷ 0 ∷ []) ∷ (0 ∷ 0 ∷ 0 ∷ 1 ∷ []) ∷ (0 ∷ 15 ∷ 66 ∷ 64 ∷ []) ∷ (0 ∷ 15 ∷ 66 ∷ 65 ∷ []) ∷ (255 ∷ 255 ∷ 255 ∷ 255 ∷ []) ∷ []) ≡ rejected 4 23 ∷ rejected 8 17 ∷ rejected 8 17 ∷ rejected 4 23 ∷ rejected 4 23 ∷ []
quot_constant = refl

-- 4 before 5: quot by 0 of an unknown occurrence
quot_before_operand : in_first (field 4 (0 ∷ 1 ∷ 8 ∷ 7 ∷ 7 ∷ 0 ∷ 0 ∷ 0 ∷ 0 ∷ [])) ≡ rejected 4 23
quot_before_operand = refl

-- ---- 5: the target, then the operands

unknown_target : map (λ o. in_first (field 4 (o ++ (0 ∷ 0 ∷ 0 ∷ 0 ∷ 0 ∷ [])))) ((0 ∷ 0 ∷ []) ∷ (0 ∷ 2 ∷ []) ∷ (1 ∷ 0 ∷ []) ∷ (1 ∷ 3 ∷ []) ∷ (2 ∷ 1 ∷ []) ∷ (129 ∷ 1 ∷ []) ∷ []) ≡ replicate 6 (rejected 5 23)
unknown_target = refl

-- a terminal has no attributes: A to the token
terminal_target : verdict_of (first_production ++ (a_to_token ++ field 4 (1 ∷ 1 ∷ 0 ∷ 0 ∷ 0 ∷ 0 ∷ 0 ∷ []))) ≡ rejected 5 47
terminal_target = refl

unknown_operand : map (λ f. in_first (field 4 (0 ∷ 1 ∷ f)))
    ((1 ∷ 2 ∷ 1 ∷ []) ∷ (2 ∷ 2 ∷ 1 ∷ 1 ∷ 2 ∷ []) ∷ (2 ∷ 1 ∷ 2 ∷ 2 ∷ 1 ∷ []) ∷ (3 ∷ 1 ∷ 2 ∷ 1 ∷ 0 ∷ []) ∷ (4 ∷ 1 ∷ 2 ∷ 1 ∷ 3 ∷ [])
    ∷ (5 ∷ 1 ∷ 2 ∷ 9 ∷ 9 ∷ []) ∷ (6 ∷ 9 ∷ 9 ∷ 1 ∷ 2 ∷ []) ∷ (7 ∷ 2 ∷ 1 ∷ 0 ∷ 0 ∷ 0 ∷ 0 ∷ []) ∷ (8 ∷ 2 ∷ 1 ∷ 0 ∷ 0 ∷ 0 ∷ 1 ∷ []) ∷ [])
    ≡ replicate 9 (rejected 5 23)
unknown_operand = refl

-- 5 before 7: n of A is an input, and the operand is unknown
unknown_before_direction : in_first (field 4 (1 ∷ 2 ∷ 1 ∷ 9 ∷ 9 ∷ [])) ≡ rejected 5 23
unknown_before_direction = refl

-- ---- 7: a rule sets an output and reads inputs

sets_right_input : in_first (field 4 (1 ∷ 2 ∷ 0 ∷ 0 ∷ 0 ∷ 0 ∷ 0 ∷ [])) ≡ rejected 7 23
sets_right_input = refl

sets_left_input : verdict_of (first_production ++ (a_to_token ++ field 4 (0 ∷ 1 ∷ 0 ∷ 0 ∷ 0 ∷ 0 ∷ 0 ∷ []))) ≡ rejected 7 47
sets_left_input = refl

-- d of A, n of S; as first and as second operand
reads_output : map (λ f. in_first (field 4 (0 ∷ 1 ∷ f)))
    ((1 ∷ 1 ∷ 1 ∷ []) ∷ (1 ∷ 0 ∷ 1 ∷ []) ∷ (2 ∷ 1 ∷ 1 ∷ 1 ∷ 2 ∷ []) ∷ (2 ∷ 1 ∷ 2 ∷ 1 ∷ 1 ∷ []) ∷ (3 ∷ 1 ∷ 2 ∷ 0 ∷ 1 ∷ []) ∷ (4 ∷ 1 ∷ 2 ∷ 1 ∷ 1 ∷ [])
    ∷ (5 ∷ 1 ∷ 2 ∷ 1 ∷ 1 ∷ []) ∷ (6 ∷ 1 ∷ 1 ∷ 1 ∷ 2 ∷ []) ∷ (7 ∷ 1 ∷ 1 ∷ 0 ∷ 0 ∷ 0 ∷ 0 ∷ []) ∷ (8 ∷ 1 ∷ 1 ∷ 0 ∷ 0 ∷ 0 ∷ 1 ∷ []) ∷ [])
    ≡ replicate 10 (rejected 7 23)
reads_output = refl

-- 7 before 8 and before 9
direction_before_second : in_first (hand_down ++ field 4 (1 ∷ 1 ∷ 1 ∷ 0 ∷ 1 ∷ [])) ≡ rejected 7 33
direction_before_second = refl

direction_before_position : in_first (field 4 (1 ∷ 1 ∷ 1 ∷ 1 ∷ 1 ∷ [])) ≡ rejected 7 23
direction_before_position = refl

-- ---- 8: a second rule

second_rule : in_first (hand_down ++ hand_down) ≡ rejected 8 33
second_rule = refl

second_rule_later : in_first (hand_up ++ (hand_down ++ hand_up)) ≡ rejected 8 41
second_rule_later = refl

-- 8 before 9
second_before_position : in_first (hand_down ++ field 4 (1 ∷ 1 ∷ 1 ∷ 1 ∷ 2 ∷ [])) ≡ rejected 8 33
second_before_position = refl

-- ---- 9: S to A A. A rule for the k-th symbol reads below k; one for the left side reads everywhere

twice : List ℕ → Verdict
twice more = verdict_of (header 1 2 0 1 ++ (counts 0 1 ++ (counts 1 1 ++ (field 3 (0 ∷ 2 ∷ 129 ∷ 129 ∷ []) ++ more))))

reads_own_position : map (λ f. twice (field 4 f)) ((1 ∷ 1 ∷ 1 ∷ 1 ∷ 2 ∷ []) ∷ (1 ∷ 1 ∷ 1 ∷ 2 ∷ 2 ∷ []) ∷ (2 ∷ 1 ∷ 1 ∷ 2 ∷ 2 ∷ []) ∷ (2 ∷ 1 ∷ 2 ∷ 1 ∷ 2 ∷ 2 ∷ 2 ∷ []) ∷ (2 ∷ 1 ∷ 2 ∷ 2 ∷ 2 ∷ 1 ∷ 2 ∷ []) ∷ []) ≡ replicate 5 (rejected 9 24)
unfolding twice
reads_own_position = refl

-- fine: d of the second A from n of the first, n of S from both (what is left over is a missing rule)
reads_below : twice (field 4 (2 ∷ 1 ∷ 1 ∷ 1 ∷ 2 ∷ []) ++ field 4 (0 ∷ 1 ∷ 2 ∷ 1 ∷ 2 ∷ 2 ∷ 2 ∷ [])) ≡ rejected 8 17
unfolding twice
reads_below = refl

-- ---- conditions: 4, 5, 7, 10

range_length : map (λ k. in_first (field 5 (0 ∷ 9 ∷ 9 ∷ replicate k 0))) (7 ∷ 8 ∷ 9 ∷ []) ≡ rejected 4 23 ∷ rejected 5 23 ∷ rejected 4 23 ∷ []
range_length = refl

atmost_length : map (λ k. in_first (field 5 (1 ∷ 9 ∷ 9 ∷ replicate k 1))) (1 ∷ 2 ∷ 3 ∷ []) ≡ rejected 4 23 ∷ rejected 5 23 ∷ rejected 4 23 ∷ []
atmost_length = refl

condition_empty : in_first (field 5 []) ≡ rejected 4 23
condition_empty = refl

-- an unknown kind has any length that holds it
unknown_kind : map (λ bs. in_first (field 5 bs)) ((3 ∷ []) ∷ (255 ∷ []) ∷ (3 ∷ 1 ∷ 2 ∷ 1 ∷ 2 ∷ []) ∷ (3 ∷ replicate 300 0) ∷ []) ≡ replicate 4 (rejected 5 23)
unknown_kind = refl

range_of : List ℕ → List ℕ → List ℕ → Verdict
range_of o low high = in_first (hand_down ++ (hand_up ++ field 5 (0 ∷ (o ++ (low ++ high)))))

-- 5 before 10, 7 before 10: low is 1, high is 0
unknown_in_range : range_of (1 ∷ 3 ∷ []) (0 ∷ 0 ∷ 0 ∷ 1 ∷ []) (0 ∷ 0 ∷ 0 ∷ 0 ∷ []) ≡ rejected 5 41
unfolding range_of
unknown_in_range = refl

range_reads_output : map (λ o. range_of o (0 ∷ 0 ∷ 0 ∷ 1 ∷ []) (0 ∷ 0 ∷ 0 ∷ 0 ∷ [])) ((1 ∷ 1 ∷ []) ∷ (0 ∷ 1 ∷ []) ∷ []) ≡ replicate 2 (rejected 7 41)
unfolding range_of
range_reads_output = refl

low_above_high : range_of (1 ∷ 2 ∷ []) (0 ∷ 0 ∷ 0 ∷ 1 ∷ []) (0 ∷ 0 ∷ 0 ∷ 0 ∷ []) ≡ rejected 10 41
unfolding range_of
low_above_high = refl

-- bounds have a sign
low_above_negative : range_of (1 ∷ 2 ∷ []) (0 ∷ 0 ∷ 0 ∷ 0 ∷ []) (255 ∷ 255 ∷ 255 ∷ 255 ∷ []) ≡ rejected 10 41
unfolding range_of
low_above_negative = refl

-- -1 to 0, 0 to 0: fine, so A lacks a production and derives nothing
good_ranges : map (λ low. range_of (1 ∷ 2 ∷ []) low (0 ∷ 0 ∷ 0 ∷ 0 ∷ [])) ((255 ∷ 255 ∷ 255 ∷ 255 ∷ []) ∷ (0 ∷ 0 ∷ 0 ∷ 0 ∷ []) ∷ []) ≡ replicate 2 (rejected 11 7)
unfolding range_of
good_ranges = refl

unknown_in_comparison : map (λ f. in_first (field 5 (1 ∷ f))) ((9 ∷ 9 ∷ 1 ∷ 2 ∷ []) ∷ (1 ∷ 2 ∷ 9 ∷ 9 ∷ []) ∷ (1 ∷ 2 ∷ 1 ∷ 3 ∷ []) ∷ (2 ∷ 1 ∷ 1 ∷ 2 ∷ []) ∷ []) ≡ replicate 4 (rejected 5 23)
unknown_in_comparison = refl

comparison_reads_output : map (λ f. in_first (field 5 (1 ∷ f))) ((1 ∷ 1 ∷ 1 ∷ 2 ∷ []) ∷ (1 ∷ 2 ∷ 1 ∷ 1 ∷ []) ∷ (0 ∷ 1 ∷ 0 ∷ 1 ∷ []) ∷ []) ≡ replicate 3 (rejected 7 23)
comparison_reads_output = refl

-- inside position 0 since 02 (j). A symbol's attribute may be compared with itself, and with the left side's
comparison_in_0 : in_last (field 5 (1 ∷ 0 ∷ 1 ∷ 0 ∷ 1 ∷ [])) ≡ accepted
comparison_in_0 = refl

comparison_elsewhere : in_first (hand_down ++ (hand_up ++ (field 5 (1 ∷ 1 ∷ 2 ∷ 1 ∷ 2 ∷ []) ++ (a_to_token ++ field 4 (0 ∷ 2 ∷ 0 ∷ 0 ∷ 0 ∷ 0 ∷ 0 ∷ []))))) ≡ accepted
comparison_elsewhere = refl

-- S to A; A to B, B to the token: n of B is compared with d of A, either way
with_left : List ℕ → Verdict
with_left o =
    verdict_of (header 1 3 0 1
    ++ (counts 0 1
    ++ (counts 1 0
    ++ (counts 0 1
    ++ (field 3 (0 ∷ 1 ∷ 129 ∷ [])
    ++ (field 4 (1 ∷ 1 ∷ 0 ∷ 0 ∷ 0 ∷ 0 ∷ 0 ∷ [])
    ++ (field 4 (0 ∷ 1 ∷ 0 ∷ 0 ∷ 0 ∷ 0 ∷ 0 ∷ [])
    ++ (field 3 (1 ∷ 1 ∷ 130 ∷ []) ++ (field 5 (1 ∷ o) ++ (field 3 (2 ∷ 1 ∷ 0 ∷ []) ++ field 4 (0 ∷ 1 ∷ 0 ∷ 0 ∷ 0 ∷ 0 ∷ 0 ∷ [])))))))))))

comparison_with_left : map with_left ((0 ∷ 1 ∷ 1 ∷ 1 ∷ []) ∷ (1 ∷ 1 ∷ 0 ∷ 1 ∷ []) ∷ []) ≡ accepted ∷ accepted ∷ []
unfolding with_left
comparison_with_left = refl

-- the same condition twice
twice_the_same : in_first (hand_down ++ (hand_up ++ (field 5 (1 ∷ 1 ∷ 2 ∷ 1 ∷ 2 ∷ []) ++ (field 5 (1 ∷ 1 ∷ 2 ∷ 1 ∷ 2 ∷ []) ++ (a_to_token ++ field 4 (0 ∷ 2 ∷ 0 ∷ 0 ∷ 0 ∷ 0 ∷ 0 ∷ [])))))) ≡ accepted
twice_the_same = refl
