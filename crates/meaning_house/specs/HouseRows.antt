-- The writer on small tables, computed.
use Rattle.std.specs.Prelude.{ℕ, suc, ◌≡◌, refl, List, [], ◌∷◌, ◌++◌, length, replicate, pos}
use Rattle.std.proofs.Common.{arith, ap, ◌∙◌}
use Rattle.meaning.specs.Grammar.{Occurrence, const, Rule, Production}
use Rattle.meaning.specs.Layout.{field}
use Rattle.meaning.specs.Examples.Samples.{heads, s_to_a, hand_down, hand_up, a_to_token, a_is_zero, small}
use Rattle.meaning_house.specs.Order.{Shuffled, neither, kept, swapped, through, SameProduction, arranged, rule_key}
use Rattle.meaning_house.specs.House.{wrote, turned_back, house_of}

-- S's own attribute is set at position 0, A's at position 1: the rule for position 0 comes first
abbrev in_order_value : List ℕ
in_order_value = heads ++ (s_to_a ++ (hand_up ++ (hand_down ++ (a_to_token ++ a_is_zero))))

-- 57 bytes, and the three cells past them stay
small_written : house_of small (replicate 60 9) ≡ record { answer = wrote 57; buffer = in_order_value ++ (9 ∷ 9 ∷ 9 ∷ []) }
small_written = refl

in_order_stays : house_of in_order_value (replicate 57 9) ≡ record { answer = wrote 57; buffer = in_order_value }
in_order_stays = refl

too_short : house_of small (replicate 56 9) ≡ record { answer = turned_back 36 0; buffer = replicate 56 9 }
too_short = refl

-- the table's own refusal comes before 36
table_first : house_of (heads ++ (s_to_a ++ hand_down)) [] ≡ record { answer = turned_back 8 17; buffer = [] }
table_first = refl

-- conditions on A's n after it: at most -1 comes after at most 5, bytes being unsigned; kinds 1 and 2 after kind 0; each once
low : List ℕ
low = field 5 (0 ∷ 1 ∷ 2 ∷ 0 ∷ 0 ∷ 0 ∷ 0 ∷ 0 ∷ 0 ∷ 0 ∷ 5 ∷ [])

high : List ℕ
high = field 5 (0 ∷ 1 ∷ 2 ∷ 255 ∷ 255 ∷ 255 ∷ 254 ∷ 255 ∷ 255 ∷ 255 ∷ 255 ∷ [])

comparison : List ℕ
comparison = field 5 (1 ∷ 1 ∷ 2 ∷ 1 ∷ 2 ∷ [])

difference : List ℕ
difference = field 5 (2 ∷ 1 ∷ 2 ∷ 1 ∷ 2 ∷ 0 ∷ 0 ∷ 0 ∷ 0 ∷ [])

mixed : List ℕ
mixed = heads ++ (s_to_a ++ (difference ++ (comparison ++ (hand_down ++ (high ++ (low ++ (hand_up ++ (high ++ (comparison ++ (a_to_token ++ a_is_zero))))))))))

sorted : List ℕ
sorted = heads ++ (s_to_a ++ (hand_up ++ (hand_down ++ (low ++ (high ++ (comparison ++ (difference ++ (a_to_token ++ a_is_zero))))))))

conditions_once : house_of mixed (replicate 105 9) ≡ record { answer = wrote 105; buffer = sorted }
unfolding mixed sorted low high comparison difference
conditions_once = refl

-- what is dropped does not count: 127 bytes are brought, 105 are asked of the buffer
conditions_short : (house_of mixed (replicate 104 9)).answer ≡ turned_back 36 0
unfolding mixed low high comparison difference
conditions_short = refl

-- 02 (e): tag 6 fields stand before the first production, as they do in the table
carried : house_of (heads ++ (field 6 (0 ∷ []) ++ (s_to_a ++ (hand_down ++ (hand_up ++ (a_to_token ++ a_is_zero)))))) (replicate 61 9) ≡ record { answer = wrote 61; buffer = heads ++ (field 6 (0 ∷ []) ++ (s_to_a ++ (hand_up ++ (hand_down ++ (a_to_token ++ a_is_zero))))) }
carried = refl

-- ---- the order of rules: positions before attributes

set_at : ℕ → ℕ → Rule Occurrence
set_at p a = record { target = record { position = p; attribute = a }; function = const (pos 0) }

positions_first : arranged rule_key (set_at 1 1 ∷ set_at 0 2 ∷ []) ≡ set_at 0 2 ∷ set_at 1 1 ∷ []
unfolding set_at
positions_first = refl

-- ---- what is not the same but for order: a production that has lost a rule

shuffled_long : {A : Type 0} {xs ys : List A} → Shuffled xs ys → length xs ≡ length ys
shuffled_long neither = refl
shuffled_long (kept x s) = ap suc (shuffled_long s)
shuffled_long (swapped x y xs) = refl
shuffled_long (through s t) = shuffled_long s ∙ shuffled_long t

abbrev one : List (Rule Occurrence) → Production
one rs = record { left = 0; right = []; rules = rs; conditions = [] }

rule_lost : (r : Rule Occurrence) → SameProduction (one (r ∷ [])) (one []) → ⊥
rule_lost r s = let l = shuffled_long s.rules in omega arith
