-- The parts of the program's words, by / and %: the one account of how a word is taken apart. (Those of a place stand in meaning's Grammar, the operations' numbers in its Program.)
use Rattle.std.specs.Prelude.{ℕ, ◌+◌, ◌/◌, ◌%◌, ◌^◌, Bool, List, get_or, eqb}

-- ---- an instruction's head word

abbrev pub head_operation : ℕ → ℕ
head_operation w = w % 8

abbrev pub head_operand : ℕ → ℕ
head_operand w = w / 8

-- ---- a word of the directory

-- from here on it says where the scheme begins
abbrev pub directory_step : ℕ
directory_step = 256

-- the production's number plus 1, or 0
abbrev pub directory_number : ℕ → ℕ
directory_number w = w % directory_step

-- the address of its scheme, where it has no entry tests
abbrev pub directory_scheme : ℕ → ℕ
directory_scheme w = w / directory_step

-- ---- a rule's first word

abbrev pub rule_target : ℕ → ℕ
rule_target w = w % 128

abbrev pub rule_function : ℕ → ℕ
rule_function w = w / 128 % 16

-- the selectors of its operands
abbrev pub rule_first : ℕ → ℕ
rule_first w = w / 2048 % 128

abbrev pub rule_second : ℕ → ℕ
rule_second w = w / 262144

-- ---- a condition's first word

abbrev pub condition_kind : ℕ → ℕ
condition_kind w = w / 128 % 16

-- its selectors
abbrev pub condition_first : ℕ → ℕ
condition_first w = w % 128

abbrev pub condition_second : ℕ → ℕ
condition_second w = w / 2048 % 128

-- ---- the word that says what a place waits at

abbrev pub wait_left : ℕ → ℕ
wait_left w = w % 64

-- how many registers the symbols passed have
abbrev pub wait_passed : ℕ → ℕ
wait_passed w = w / 64 % 128

-- how many registers of the awaited symbol stand marked
abbrev pub wait_marked : ℕ → ℕ
wait_marked w = w / 8192 % 16

abbrev pub wait_inherited : ℕ → ℕ
wait_inherited w = w / 131072 % 16

-- the awaited symbol as in the table
abbrev pub wait_symbol : ℕ → ℕ
wait_symbol w = w / 2097152 % 256

-- ---- a token set in two words from address a on

abbrev pub in_set : List ℕ → ℕ → ℕ → Bool
in_set ws a u = eqb (get_or ws (a + u / 32) 0 / 2 ^ (u % 32) % 2) 1
