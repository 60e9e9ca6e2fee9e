-- The table of the grammar of words and tags, read; then fields, headers, counts and productions: refusals 1 to 6 and 8 where they stand, both sides of each limit, and their order.
use Rattle.std.specs.Prelude.{◌≡◌, refl, [], ◌∷◌, ◌++◌, map, replicate}
use Rattle.meaning.specs.Judgement.{rejected}
use Rattle.meaning.specs.Decide.{verdict_of}
use Rattle.meaning.specs.Layout.{field}
use Rattle.meaning.specs.Examples.Samples.{header, counts, s_to_a, hand_down, first_production, a_to_token, after_heads, in_first}

-- ---- 2: a field cut short. A wrong tag that is also cut short is a 2

cut_wrong_tag : verdict_of (9 ∷ 0 ∷ 5 ∷ 1 ∷ []) ≡ rejected 2 0
cut_wrong_tag = refl

cut_high_byte : verdict_of (1 ∷ 1 ∷ 4 ∷ 3 ∷ 2 ∷ 0 ∷ 1 ∷ []) ≡ rejected 2 0
cut_high_byte = refl

stray_after_counts : after_heads (3 ∷ 0 ∷ []) ≡ rejected 2 17
stray_after_counts = refl

-- ---- 3: tags out of order, tables over too early

-- the tag is judged before the body
wrong_first_tag : map verdict_of ((0 ∷ 0 ∷ 0 ∷ []) ∷ (2 ∷ 0 ∷ 2 ∷ 0 ∷ 1 ∷ []) ∷ (3 ∷ 0 ∷ 3 ∷ 0 ∷ 1 ∷ 129 ∷ []) ∷ (9 ∷ 0 ∷ 1 ∷ 1 ∷ []) ∷ (255 ∷ 0 ∷ 0 ∷ []) ∷ []) ≡ replicate 5 (rejected 3 0)
wrong_first_tag = refl

over_after_header : verdict_of (header 3 2 0 1) ≡ rejected 3 7
over_after_header = refl

second_header : verdict_of (header 1 2 0 1 ++ header 1 2 0 1) ≡ rejected 3 7
second_header = refl

over_among_counts : verdict_of (header 1 2 0 1 ++ counts 0 1) ≡ rejected 3 12
over_among_counts = refl

production_among_counts : verdict_of (header 1 2 0 1 ++ (counts 0 1 ++ s_to_a)) ≡ rejected 3 12
production_among_counts = refl

-- a tag 2 too many, a rule and a condition before the first production, unknown tags
not_a_production : map after_heads ((counts 0 1) ∷ hand_down ∷ (field 5 (1 ∷ 1 ∷ 2 ∷ 1 ∷ 2 ∷ [])) ∷ (0 ∷ 0 ∷ 0 ∷ []) ∷ (1 ∷ 0 ∷ 0 ∷ []) ∷ (7 ∷ 0 ∷ 0 ∷ []) ∷ []) ≡ replicate 6 (rejected 3 17)
not_a_production = refl

unknown_tag_later : map in_first ((0 ∷ 0 ∷ 0 ∷ []) ∷ (1 ∷ 0 ∷ 0 ∷ []) ∷ (2 ∷ 0 ∷ 2 ∷ 0 ∷ 1 ∷ []) ∷ (6 ∷ 0 ∷ 0 ∷ []) ∷ (7 ∷ 0 ∷ 0 ∷ []) ∷ []) ≡ replicate 5 (rejected 3 23)
unknown_tag_later = refl

-- ---- the header

header_length : map verdict_of ((field 1 []) ∷ (field 1 (1 ∷ 2 ∷ 0 ∷ [])) ∷ (field 1 (1 ∷ 2 ∷ 0 ∷ 1 ∷ 0 ∷ [])) ∷ []) ≡ replicate 3 (rejected 4 0)
header_length = refl

-- T from 1 to 63, N from 1 to 48
terminals : map (λ t. verdict_of (header t 1 0 1)) (0 ∷ 1 ∷ 63 ∷ 64 ∷ []) ≡ rejected 4 0 ∷ rejected 3 7 ∷ rejected 3 7 ∷ rejected 4 0 ∷ []
terminals = refl

nonterminals : map (λ n. verdict_of (header 1 n 0 1)) (0 ∷ 1 ∷ 48 ∷ 49 ∷ []) ≡ rejected 4 0 ∷ rejected 3 7 ∷ rejected 3 7 ∷ rejected 4 0 ∷ []
nonterminals = refl

-- 4 before 5
terminals_before_start : verdict_of (header 64 2 2 1) ≡ rejected 4 0
terminals_before_start = refl

-- ---- attribute counts

counts_length : map (λ b. verdict_of (header 1 1 0 1 ++ field 2 b)) ((1 ∷ []) ∷ (0 ∷ 1 ∷ 0 ∷ []) ∷ []) ≡ replicate 2 (rejected 4 7)
counts_length = refl

eight_together : verdict_of (header 1 2 1 1 ++ counts 3 5) ≡ rejected 3 12
eight_together = refl

-- 4 before 6
nine_synthesized : verdict_of (header 1 1 0 1 ++ counts 0 9) ≡ rejected 4 7
nine_synthesized = refl

-- 6, at the start symbol's own field
second_is_start : verdict_of (header 1 2 1 1 ++ (counts 1 1 ++ counts 1 1)) ≡ rejected 6 12
second_is_start = refl

-- the result attribute, of three
result_attribute : map (λ a. verdict_of (header 1 1 0 a ++ counts 0 3)) (0 ∷ 1 ∷ 3 ∷ 4 ∷ []) ≡ rejected 6 7 ∷ rejected 3 12 ∷ rejected 3 12 ∷ rejected 6 7 ∷ []
result_attribute = refl

-- ---- productions

production_length : map (λ b. after_heads (field 3 b)) ([] ∷ (0 ∷ []) ∷ (0 ∷ 1 ∷ []) ∷ (0 ∷ 1 ∷ 0 ∷ 0 ∷ []) ∷ (0 ∷ 0 ∷ 0 ∷ []) ∷ []) ≡ replicate 5 (rejected 4 17)
production_length = refl

-- 12 symbols pass (a rule is missing at the end), 13 do not, known or not
twelve_symbols : after_heads (field 3 (0 ∷ 12 ∷ replicate 12 0)) ≡ rejected 8 17
twelve_symbols = refl

thirteen_symbols : map (λ x. after_heads (field 3 (0 ∷ 13 ∷ replicate 13 x))) (0 ∷ 1 ∷ []) ≡ replicate 2 (rejected 4 17)
thirteen_symbols = refl

left_known : map (λ n. after_heads (field 3 (n ∷ 0 ∷ []))) (1 ∷ 2 ∷ 128 ∷ 129 ∷ []) ≡ rejected 8 17 ∷ rejected 5 17 ∷ rejected 5 17 ∷ rejected 5 17 ∷ []
left_known = refl

symbols_known_lem : map (λ x. after_heads (field 3 (0 ∷ 2 ∷ 0 ∷ x ∷ []))) (0 ∷ 1 ∷ 63 ∷ 127 ∷ 128 ∷ 129 ∷ 130 ∷ 255 ∷ []) ≡ rejected 8 17 ∷ rejected 5 17 ∷ rejected 5 17 ∷ rejected 5 17 ∷ rejected 8 17 ∷ rejected 8 17 ∷ rejected 5 17 ∷ rejected 5 17 ∷ []
symbols_known_lem = refl

-- ---- 8 for a rule that is missing: the next byte alone decides

missing_before_3 : map (λ more. in_first (hand_down ++ more)) ((3 ∷ []) ∷ (3 ∷ 255 ∷ 255 ∷ []) ∷ a_to_token ∷ []) ≡ replicate 3 (rejected 8 17)
missing_before_3 = refl

-- in a later production
missing_in_second : verdict_of (first_production ++ a_to_token) ≡ rejected 8 41
missing_in_second = refl

missing_in_second_before_3 : verdict_of (first_production ++ (a_to_token ++ (3 ∷ []))) ≡ rejected 8 41
missing_in_second_before_3 = refl

-- nothing is missing in a production without outputs
no_outputs : verdict_of (header 1 2 0 1 ++ (counts 0 1 ++ (counts 1 0 ++ (field 3 (1 ∷ 0 ∷ []) ++ (3 ∷ []))))) ≡ rejected 2 22
no_outputs = refl
