-- The limits of document 01, each in this one place. (Those of values stand in Value, those of constants in Rules, that of a window in Window.)
use Rattle.std.specs.Prelude.{ℕ, ◌+◌}

-- ---- a table

-- "At most 32,768 bytes of fields"
abbrev pub table_limit : ℕ
table_limit = 32768

-- "terminals T (1 to 63), nonterminals N (1 to 48)"
abbrev pub terminals_limit : ℕ
terminals_limit = 63

abbrev pub nonterminals_limit : ℕ
nonterminals_limit = 48

-- "inherited count, synthesized count; together at most 8"
abbrev pub attributes_limit : ℕ
attributes_limit = 8

-- "1 to 128 productions", "right-side length (0 to 12)"
abbrev pub productions_limit : ℕ
productions_limit = 128

abbrev pub symbols_limit : ℕ
symbols_limit = 12

-- a production's positions: 0 is its left side, from 1 on are the symbols of its right side
abbrev pub positions_limit : ℕ
positions_limit = symbols_limit + 1

-- "At most 1,024 rules", of conditions "At most 512"
abbrev pub rules_limit : ℕ
rules_limit = 1024

abbrev pub conditions_limit : ℕ
conditions_limit = 512

-- "quot a c, toward zero, c from 1 to 1,000,000"
abbrev pub divisor_limit : ℕ
divisor_limit = 1000000

-- ---- a run

-- "At most 4,096 registers and 1,024 places are used"
abbrev pub registers_limit : ℕ
registers_limit = 4096

abbrev pub places_limit : ℕ
places_limit = 1024

-- 02 (i): "depth is at most 1,023, the root being at depth 1": the whole segment has one of the places
abbrev pub depth_limit : ℕ
depth_limit = 1023

-- "A program area of at least 16,384 32-bit words is lent"
abbrev pub area_length : ℕ
area_length = 16384

-- "35 a token after 65,535, or a move after 4,294,967,295"
abbrev pub tokens_limit : ℕ
tokens_limit = 65535

abbrev pub moves_limit : ℕ
moves_limit = 4294967295

-- ---- a ranking

-- 02 (b): "up to 512 candidate segments"
abbrev pub candidates_limit : ℕ
candidates_limit = 512

-- ---- numbers of 32 bits

-- "32-bit words", "four-byte two's complement"
abbrev pub highest_word : ℕ
highest_word = 4294967295
