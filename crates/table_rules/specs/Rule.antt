-- The faults of the fields of tags 4 and 5, as lists of demands on their bytes and on the counts at each position of their production.
-- `inh` and `syn` list the counts of the symbols at positions 0 to `width`; `note` the occurrences that have a rule.
use Rattle.std.specs.Prelude.{ℕ, zero, suc, ◌+◌, ◌-◌, ◌*◌, ◌/◌, ◌%◌, ◌^◌, ◌≤◌, ◌<◌, ◌≡◌, Bool, true, false, ◌&&◌, List, get_or, length, eqb, leb}
use Rattle.std.specs.Int.Signed.{le_z}
use Rattle.meaning.specs.Limits.{rules_limit, attributes_limit, conditions_limit, symbols_limit, divisor_limit}
use Rattle.meaning.specs.Base.{all, count_from}
use Rattle.meaning.specs.Table.{byte, signed}
use Rattle.table_fields.specs.Demand.{holds, lacks, equal, differs, at_most, below, if_equal, if_below}

-- no symbol has more than 8 attributes
abbrev pub Small : ℕ → List ℕ → List ℕ → Type 0
Small width inh syn = (width ≤ symbols_limit) × ((k : ℕ) → k ≤ width → get_or inh k 0 + get_or syn k 0 ≤ attributes_limit)

-- ---- occurrences

-- 0: unknown; 1: an input; 2: an output
unfoldable pub class_at : ℕ → List ℕ → List ℕ → ℕ → ℕ → ℕ
class_at width inh syn position attribute =
    if_below width position 0
    (if_below attribute 1 0
    (if_below (get_or inh position 0 + get_or syn position 0) attribute 0
    (if_equal position 0
    (if_below (get_or inh position 0) attribute 2 1)
    (if_below (get_or inh position 0) attribute 1 2))))

-- the class of the occurrence in two bytes
unfoldable pub class_in : ℕ → List ℕ → List ℕ → List ℕ → ℕ → ℕ
class_in width inh syn b i = class_at width inh syn (byte b i) (byte b (i + 1))

-- ---- constants

unfoldable pub four_at : List ℕ → ℕ → ℕ
four_at b i = ((byte b i * 256 + byte b (i + 1)) * 256 + byte b (i + 2)) * 256 + byte b (i + 3)

-- two's complement: the first is at most the second
unfoldable pub in_order_value : ℕ → ℕ → Bool
in_order_value x y = le_z (signed x) (signed y)

-- ---- the note: bit a - 1 of the number at a position is attribute a

unfoldable pub bit : ℕ → ℕ → Bool
bit n i = eqb (n / 2 ^ i % 2) 1

-- the lowest d bits are set
unfoldable pub ones : ℕ → ℕ → Bool
ones n zero = true
ones n (suc d) = eqb (n % 2) 1 && ones (n / 2) d

-- the outputs at a position are noted
unfoldable pub filled_at : ℕ → ℕ → ℕ → ℕ → Bool
filled_at position i s n = if_equal position 0 (ones (n / 2 ^ i) s) (ones n i)

unfoldable pub settled : List ℕ → List ℕ → List ℕ → ℕ → Bool
settled inh syn note k = filled_at k (get_or inh k 0) (get_or syn k 0) (get_or note k 0)

-- a test passes for n numbers from k on
unfoldable pub all_count : (ℕ → Bool) → ℕ → ℕ → Bool
all_count f k n = all f (count_from k n)

abbrev pub complete_note : ℕ → List ℕ → List ℕ → List ℕ → Bool
complete_note width inh syn note = all_count (settled inh syn note) 0 (suc width)

-- ---- rules

-- the length of a rule's body by a known function, and how many operands that has
unfoldable pub length_of : ℕ → ℕ
length_of f = if_equal f 0 7 (if_equal f 1 5 (if_below f 7 7 9))

unfoldable pub operand_count : ℕ → ℕ
operand_count f = if_equal f 0 0 (if_equal f 1 1 (if_below f 7 2 1))

-- the k-th of n operands; one past them counts as an input at position 0
unfoldable pub operand_class : ℕ → List ℕ → List ℕ → List ℕ → ℕ → ℕ → ℕ
operand_class width inh syn b n k = if_below k n (class_in width inh syn b (3 + 2 * k)) 1

unfoldable pub operand_place : List ℕ → ℕ → ℕ → ℕ
operand_place b n k = if_below k n (byte b (3 + 2 * k)) 0

-- n operands are inputs at positions below a limit
pub record OperandsFit (limit width : ℕ) (inh syn b : List ℕ) (n : ℕ) : Type 0 where
  pub first : 1 ≡ operand_class width inh syn b n 0
  pub second : 1 ≡ operand_class width inh syn b n 1
  pub first_place : operand_place b n 0 < limit
  pub second_place : operand_place b n 1 < limit

unfoldable pub divisor_fits : ℕ → List ℕ → Bool
divisor_fits f b = if_equal f 8 (if_below (four_at b 5) 1 false (leb (four_at b 5) divisor_limit)) true

-- of a target and two operands by their classes
unfoldable pub class_fault : ℕ → ℕ → ℕ → ℕ
class_fault target first second =
    differs target 0 5
    (differs first 0 5
    (differs second 0 5
    (differs target 1 7
    (differs first 2 7
    (differs second 2 7
    0)))))

unfoldable pub rule_order : List ℕ → ℕ → List ℕ → ℕ
rule_order note n b =
    lacks (bit (get_or note (byte b 0) 0) (byte b 1 - 1)) 8
    (if_equal (byte b 0) 0
    0
    (below (operand_place b n 0) (byte b 0) 9
    (below (operand_place b n 1) (byte b 0) 9
    0)))

-- a first number unless it is 0, then a second
unfoldable pub or_else : ℕ → ℕ → ℕ
or_else x y = if_equal x 0 y x

unfoldable pub rule_items : ℕ → List ℕ → List ℕ → List ℕ → List ℕ → ℕ → ℕ
rule_items width inh syn note b n =
    or_else
    (class_fault (class_in width inh syn b 0) (operand_class width inh syn b n 0) (operand_class width inh syn b n 1))
    (rule_order note n b)

-- a rule after r others
unfoldable pub rule_fault : ℕ → ℕ → List ℕ → List ℕ → List ℕ → List ℕ → ℕ
rule_fault r width inh syn note b =
    at_most 3 (length b) 4
    (below r rules_limit 4
    (at_most (byte b 2) 8 5
    (equal (length b) (length_of (byte b 2)) 4
    (holds (divisor_fits (byte b 2) b) 4
    (rule_items width inh syn note b (operand_count (byte b 2)))))))

-- ---- conditions

unfoldable pub range_fault : ℕ → List ℕ → List ℕ → List ℕ → ℕ
range_fault width inh syn b =
    equal (length b) 11 4
    (differs (class_in width inh syn b 1) 0 5
    (differs (class_in width inh syn b 1) 2 7
    (holds (in_order_value (four_at b 3) (four_at b 7)) 10
    0)))

-- a comparison whose length is n
unfoldable pub at_most_fault : ℕ → ℕ → List ℕ → List ℕ → List ℕ → ℕ
at_most_fault n width inh syn b =
    equal (length b) n 4
    (differs (class_in width inh syn b 1) 0 5
    (differs (class_in width inh syn b 3) 0 5
    (differs (class_in width inh syn b 1) 2 7
    (differs (class_in width inh syn b 3) 2 7
    0))))

-- a condition after c others
unfoldable pub condition_fault : ℕ → ℕ → List ℕ → List ℕ → List ℕ → ℕ
condition_fault c width inh syn b =
    at_most 1 (length b) 4
    (below c conditions_limit 4
    (at_most (byte b 0) 2 5
    (if_equal (byte b 0) 0
    (range_fault width inh syn b)
    (at_most_fault (4 * byte b 0 + 1) width inh syn b))))
