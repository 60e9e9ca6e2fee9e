-- What a cursor means: the lines that are still to come, read off the words step by step.
use Rattle.std.specs.Prelude.{ℕ, zero, suc, ◌+◌, ◌-◌, ◌*◌, Bool, true, false, ◌&&◌, not, List, [], ◌∷◌, get_or, eqb, ltb, leb}
use Rattle.meaning.specs.Program.{add_operation, test_operation, evaluate_operation}
use Rattle.meaning.specs.Limits.{area_length, symbols_limit}
use Rattle.meaning.specs.Listing.{Text}
use Rattle.theory_program.specs.Parts.{head_operation, head_operand}
use Rattle.theory_program.specs.Unpacked.{rule_from, condition_from}
use Rattle.listing_lines.specs.Line.{add_line, rule_line, condition_line, remove_line}
use Rattle.program_parts.specs.declared.Items.{Items as Kind}
use Rattle.program_parts.specs.declared.Items.TheVariants.{Rules, Conditions}
use Rattle.program_parts.specs.Items.{are_rules}
use Rattle.listing_text.specs.declared.Cursor.{Cursor}
use Rattle.listing_text.specs.Lines.{position_at}

abbrev pub word_at : List ℕ → ℕ → ℕ
word_at ws a = get_or ws a 0

-- the operation and the operand of the instruction at a cursor
abbrev pub operation_at : List ℕ → Cursor → ℕ
operation_at ws c = head_operation (word_at ws c.at)

abbrev pub operand_at : List ℕ → Cursor → ℕ
operand_at ws c = head_operand (word_at ws c.at)

-- word k of a production's record
abbrev pub record_word : List ℕ → ℕ → ℕ → ℕ
record_word ws i k = word_at ws (word_at ws 2 + 8 * i + k)

-- the cursor before a production's first line: at its entry tests
abbrev pub start_of : List ℕ → ℕ → Cursor
start_of ws i = record { production = i; passed = 0; items = Conditions; left = record_word ws i 5; at = record_word ws i 4 + record_word ws i 7 }

-- in the same production
abbrev pub go_on : Cursor → ℕ → Kind → ℕ → ℕ → Cursor
go_on c k r n a = record { production = c.production; passed = k; items = r; left = n; at = a }

abbrev pub inside_of : List ℕ → Cursor → Bool
inside_of ws c = ltb c.production (word_at ws 6) && (ltb c.at area_length && leb c.passed symbols_limit)

-- an evaluate, an expect or a test stands there: it has no line of its own
abbrev pub silent : ℕ → Bool
silent operation = not (eqb operation add_operation) && leb operation test_operation

unfoldable pub skips_of : List ℕ → Cursor → Bool
skips_of ws c = not (ltb 0 c.left) && (inside_of ws c && silent (operation_at ws c))

-- behind an instruction with the word w that has no line of its own
abbrev pub skipped_by : Bool → Bool → Cursor → ℕ → Cursor
skipped_by true t c n = go_on c c.passed Rules n (c.at + 1)
skipped_by false true c n = go_on c c.passed Conditions n (c.at + 1)
skipped_by false false c n = go_on c (c.passed + 1) Conditions 0 (c.at + 1)

abbrev pub skipped : List ℕ → Cursor → Cursor
skipped ws c = skipped_by (eqb (operation_at ws c) evaluate_operation) (eqb (operation_at ws c) test_operation) c (operand_at ws c)

-- ---- the line of the item or instruction at hand, and the cursor behind it

-- whose attributes the rules at hand set
abbrev pub position_of : List ℕ → Cursor → ℕ
position_of ws c = position_at (ltb c.passed (record_word ws c.production 7)) c.passed

abbrev pub rule_here : List ℕ → Cursor → Text
rule_here ws c = rule_line c.production (position_of ws c) (rule_from (word_at ws c.at) (word_at ws (c.at + 1)))

abbrev pub behind_rule : Cursor → Cursor
behind_rule c = go_on c c.passed Rules (c.left - 1) (c.at + 2)

abbrev pub condition_here : List ℕ → Cursor → Text
condition_here ws c = condition_line c.production c.passed (condition_from (word_at ws c.at) (word_at ws (c.at + 1)) (word_at ws (c.at + 2)))

abbrev pub behind_condition : Cursor → Cursor
behind_condition c = go_on c c.passed Conditions (c.left - 1) (c.at + 3)

abbrev pub add_here : List ℕ → Cursor → Text
add_here ws c = add_line c.production (c.passed + 1) (operand_at ws c)

abbrev pub behind_add : Cursor → Cursor
behind_add c = go_on c c.passed Conditions 0 (c.at + 1)

abbrev pub remove_here : List ℕ → Cursor → Text
remove_here ws c = remove_line c.production (operand_at ws c)

-- ---- the lines still to come

pub data NextLine : Type 0 where
  stop : NextLine
  skip : Cursor → NextLine
  emit : Text → Cursor → NextLine

abbrev pub pick_step : Bool → NextLine → NextLine → NextLine
pick_step true s t = s
pick_step false s t = t

abbrev pub item_step : List ℕ → Cursor → NextLine
item_step ws c = pick_step (are_rules c.items) (emit (rule_here ws c) (behind_rule c)) (emit (condition_here ws c) (behind_condition c))

abbrev pub head_step : List ℕ → Cursor → NextLine
head_step ws c = pick_step (eqb (operation_at ws c) add_operation) (emit (add_here ws c) (behind_add c)) (emit (remove_here ws c) (start_of ws (c.production + 1)))

unfoldable pub step_of : List ℕ → Cursor → NextLine
step_of ws c = pick_step (skips_of ws c) (skip (skipped ws c)) (pick_step (inside_of ws c) (pick_step (ltb 0 c.left) (item_step ws c) (head_step ws c)) stop)

abbrev pub followed : NextLine → (Cursor → List Text) → List Text
followed stop h = []
followed (skip d) h = h d
followed (emit t d) h = t ∷ h d

-- f bounds the number of steps
abbrev pub lines_within : ℕ → List ℕ → Cursor → List Text
lines_within zero ws c = []
lines_within (suc f) ws c = followed (step_of ws c) (λ d. lines_within f ws d)

-- each step is to a later production, or to a later address in the same one
abbrev pub ahead : List ℕ → Cursor → ℕ
ahead ws c = (word_at ws 6 - c.production) * 16385 + (area_length - c.at)

unfoldable pub lines_left : List ℕ → Cursor → List Text
lines_left ws c = lines_within (suc (ahead ws c)) ws c
