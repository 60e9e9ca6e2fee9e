-- The table's counts at their limits: bytes, productions, rules and conditions, one below and one above.
use Rattle.std.specs.Prelude.{ℕ, zero, suc, ◌≡◌, refl, List, [], ◌∷◌, ◌++◌, map, replicate, length}
use Rattle.std.proofs.Math.Option.{some}
use Rattle.meaning.specs.Table.{Read, well_formed, malformed, read_table, State, Entry, Field, judge_field}
use Rattle.meaning.specs.Judgement.{rejected}
use Rattle.meaning.specs.Decide.{verdict_of}
use Rattle.meaning.specs.Layout.{field}
use Rattle.meaning.specs.Examples.Samples.{header, counts, heads, s_to_a, hand_down, hand_up}

abbrev repeat : ℕ → List ℕ → List ℕ
repeat zero bs = []
repeat (suc n) bs = bs ++ repeat n bs

-- productions, rules, conditions of a table without a refusal from 1 to 10
abbrev sizes : Read → List ℕ
sizes (well_formed s) = length s.entries ∷ s.rules ∷ s.conditions ∷ []
sizes (malformed n o) = []

-- 1
too_long : verdict_of (replicate 32769 0) ≡ rejected 1 0
too_long = refl

long_enough : verdict_of (replicate 32768 0) ≡ rejected 3 0
long_enough = refl

-- a field may be as long: its body is 32,765 bytes
one_long_field : verdict_of (1 ∷ 127 ∷ 253 ∷ replicate 32765 0) ≡ rejected 4 0
one_long_field = refl

one_short_field : verdict_of (1 ∷ 127 ∷ 253 ∷ replicate 32764 0) ≡ rejected 2 0
one_short_field = refl

-- n productions of S to nothing with its one rule: 12 and 15 n bytes
abbrev ones : ℕ → List ℕ
ones n = header 1 1 0 1 ++ (counts 0 1 ++ repeat n (field 3 (0 ∷ 0 ∷ []) ++ field 4 (0 ∷ 1 ∷ 0 ∷ 0 ∷ 0 ∷ 0 ∷ 0 ∷ [])))

-- 4 before 5: the symbol is unknown
production_129 : read_table (ones 128 ++ field 3 (0 ∷ 1 ∷ 9 ∷ [])) ≡ malformed 4 1932
production_129 = refl

-- after a production that lacks its rule, 8 comes first
missing_before_129 : read_table (ones 127 ++ (field 3 (0 ∷ 0 ∷ []) ++ field 3 (0 ∷ 0 ∷ []))) ≡ malformed 8 1917
missing_before_129 = refl

-- rules and conditions count over the whole table: twice two rules, twice three conditions
conditions_count : sizes (read_table (heads ++ repeat 2 (s_to_a ++ (hand_down ++ (hand_up ++ repeat 3 (field 5 (1 ∷ 1 ∷ 2 ∷ 1 ∷ 2 ∷ []))))))) ≡ 2 ∷ 4 ∷ 6 ∷ []
conditions_count = refl

-- ---- the counts in the state that a field is judged in

abbrev entry : Entry
entry = record { offset = 12; left = 0; right = []; rules = []; conditions = [] }

-- n productions, of which the last has no rules
counted : ℕ → ℕ → ℕ → State
counted productions rules conditions =
    record {
      header = some (record { terminals = 1; nonterminals = 1; start = 0; result = 1 });
      counts = record { inherited = 0; synthesized = 8 } ∷ [];
      counts_offsets = 7 ∷ [];
      carrying = [];
      entries = replicate productions entry;
      rules = rules;
      conditions = conditions;
    }

field_of : ℕ → List ℕ → Field
field_of tag body = record { offset = 17; tag = tag; body = body }

productions_left : map (λ n. judge_field (counted n 1024 512) (field_of 3 (0 ∷ 0 ∷ []))) (0 ∷ 127 ∷ 128 ∷ 129 ∷ []) ≡ 0 ∷ 0 ∷ 4 ∷ 4 ∷ []
unfolding counted field_of
productions_left = refl

rules_left : map (λ n. judge_field (counted 1 n 512) (field_of 4 (0 ∷ 1 ∷ 0 ∷ 0 ∷ 0 ∷ 0 ∷ 0 ∷ []))) (0 ∷ 1023 ∷ 1024 ∷ 1025 ∷ []) ≡ 0 ∷ 0 ∷ 4 ∷ 4 ∷ []
unfolding counted field_of
rules_left = refl

-- the condition reads an output: a 7
conditions_left : map (λ n. judge_field (counted 1 1024 n) (field_of 5 (1 ∷ 0 ∷ 8 ∷ 0 ∷ 8 ∷ []))) (0 ∷ 511 ∷ 512 ∷ 513 ∷ []) ≡ 7 ∷ 7 ∷ 4 ∷ 4 ∷ []
unfolding counted field_of
conditions_left = refl

-- an unknown function or kind is a 4 there too
rules_left_unknown : map (λ n. judge_field (counted 1 n 512) (field_of 4 (0 ∷ 1 ∷ 9 ∷ []))) (1023 ∷ 1024 ∷ []) ≡ 5 ∷ 4 ∷ []
unfolding counted field_of
rules_left_unknown = refl

conditions_left_unknown : map (λ n. judge_field (counted 1 1024 n) (field_of 5 (3 ∷ []))) (511 ∷ 512 ∷ []) ≡ 5 ∷ 4 ∷ []
unfolding counted field_of
conditions_left_unknown = refl
