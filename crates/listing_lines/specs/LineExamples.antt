-- Rows: lines from words.
use Rattle.std.specs.Prelude.{◌≡◌, refl, [], ◌∷◌}
use Rattle.meaning.specs.Program.{packed}
use Rattle.theory_program.specs.Unpacked.{rule_from, condition_from}
use Rattle.listing_lines.specs.Line.{add_line, rule_line, condition_line, remove_line}

-- 0 A1 2
added : add_line 0 1 2 ≡ 48 ∷ 32 ∷ 65 ∷ 49 ∷ 32 ∷ 50 ∷ 10 ∷ []
unfolding add_line
added = refl

-- 2 E2 1 addc 3 1
rule : rule_line 2 2 (rule_from (packed 1 7 3 0) 1) ≡ 50 ∷ 32 ∷ 69 ∷ 50 ∷ 32 ∷ 49 ∷ 32 ∷ 97 ∷ 100 ∷ 100 ∷ 99 ∷ 32 ∷ 51 ∷ 32 ∷ 49 ∷ 10 ∷ []
unfolding rule_line
rule = refl

-- 2 E0 4 sum 2 1
rule_of_two : rule_line 2 0 (rule_from (packed 4 2 2 1) 0) ≡ 50 ∷ 32 ∷ 69 ∷ 48 ∷ 32 ∷ 52 ∷ 32 ∷ 115 ∷ 117 ∷ 109 ∷ 32 ∷ 50 ∷ 32 ∷ 49 ∷ 10 ∷ []
unfolding rule_line
rule_of_two = refl

-- 127 E12 104 const -2147483648
rule_negative : rule_line 127 12 (rule_from (packed 104 0 0 0) 2147483648) ≡ 49 ∷ 50 ∷ 55 ∷ 32 ∷ 69 ∷ 49 ∷ 50 ∷ 32 ∷ 49 ∷ 48 ∷ 52 ∷ 32 ∷ 99 ∷ 111 ∷ 110 ∷ 115 ∷ 116 ∷ 32 ∷ 45 ∷ 50 ∷ 49 ∷ 52 ∷ 55 ∷ 52 ∷ 56 ∷ 51 ∷ 54 ∷ 52 ∷ 56 ∷ 10 ∷ []
unfolding rule_line
rule_negative = refl

-- 2 P0 range 1 0 2
range : condition_line 2 0 (condition_from (packed 1 0 0 0) 0 2) ≡ 50 ∷ 32 ∷ 80 ∷ 48 ∷ 32 ∷ 114 ∷ 97 ∷ 110 ∷ 103 ∷ 101 ∷ 32 ∷ 49 ∷ 32 ∷ 48 ∷ 32 ∷ 50 ∷ 10 ∷ []
unfolding condition_line
range = refl

-- 5 P3 atmost 9 10
at_most : condition_line 5 3 (condition_from (packed 9 1 10 0) 0 0) ≡ 53 ∷ 32 ∷ 80 ∷ 51 ∷ 32 ∷ 97 ∷ 116 ∷ 109 ∷ 111 ∷ 115 ∷ 116 ∷ 32 ∷ 57 ∷ 32 ∷ 49 ∷ 48 ∷ 10 ∷ []
unfolding condition_line
at_most = refl

-- 5 P3 atmost 9 10 -3
at_most_plus : condition_line 5 3 (condition_from (packed 9 2 10 0) 4294967293 0) ≡ 53 ∷ 32 ∷ 80 ∷ 51 ∷ 32 ∷ 97 ∷ 116 ∷ 109 ∷ 111 ∷ 115 ∷ 116 ∷ 32 ∷ 57 ∷ 32 ∷ 49 ∷ 48 ∷ 32 ∷ 45 ∷ 51 ∷ 10 ∷ []
unfolding condition_line
at_most_plus = refl

-- 3 R 1
removed : remove_line 3 1 ≡ 51 ∷ 32 ∷ 82 ∷ 32 ∷ 49 ∷ 10 ∷ []
unfolding remove_line
removed = refl
