-- The program: the translation scheme of a grammar as 32-bit words, in the layout that docs/PROGRAM.md describes. 01: "Its content depends on the table alone, in a layout written in docs/"
-- Five sections: 9 words on the whole segment; the directory, 64 words for each nonterminal; a record of 8 words for each production; 12 words for each production, what its places wait at; then each production's body: where its expects stand, its entry tests, its scheme.
use Rattle.std.specs.Prelude.{ℕ, zero, suc, ◌+◌, ◌-◌, ◌*◌, Bool, true, false, ◌&&◌, cond, List, [], ◌∷◌, ◌++◌, map, length, take, replicate, eqb}
use Rattle.std.proofs.Math.Option.{none, some}
use Rattle.meaning.specs.Base.{any, count_from, total}
use Rattle.meaning.specs.Limits.{symbols_limit}
use Rattle.meaning.specs.Grammar.{Symbol, terminal, nonterminal, Function, const, copy, binary, binary_number, addc, quot, Rule, Condition, range, atmost, Production, Grammar, inh, syn, marked_for, nonterminal_count, production_at, ProgramWords, ProgramBuilder}
use Rattle.meaning.specs.Scheme.{Instruction, add, evaluate, expect, test, remove, scheme, entry_tests}
use Rattle.meaning.specs.Sets.{TokenSet, set_size, has, starts}
use Rattle.meaning.specs.Layout.{unsigned, symbol_byte}

abbrev pub concat : {A : Type 0} → List (List A) → List A
concat [] = []
concat (xs ∷ xss) = xs ++ concat xss

-- ---- rules and conditions

-- 4 numbers in one word: selectors are below 128, functions below 16
abbrev pub packed : ℕ → ℕ → ℕ → ℕ → ℕ
packed target function a b = target + 128 * function + 2048 * a + 262144 * b

-- two words for a rule: target, function and operands; the constant
abbrev pub function_words : ℕ → Function ℕ → ProgramWords
function_words t (const c) = packed t 0 0 0 ∷ unsigned c ∷ []
function_words t (copy a) = packed t 1 a 0 ∷ 0 ∷ []
function_words t (binary f a b) = packed t (binary_number f) a b ∷ 0 ∷ []
function_words t (addc a c) = packed t 7 a 0 ∷ unsigned c ∷ []
function_words t (quot a c) = packed t 8 a 0 ∷ unsigned c ∷ []

abbrev pub rule_words : Rule ℕ → ProgramWords
rule_words r = function_words r.target r.function

-- three words for a condition: kind and selectors; low, or the constant of kind 2; high
abbrev pub condition_words : Condition ℕ → ProgramWords
condition_words (range a l h) = packed a 0 0 0 ∷ unsigned l ∷ unsigned h ∷ []
condition_words (atmost a b none) = packed a 1 b 0 ∷ 0 ∷ 0 ∷ []
condition_words (atmost a b (some c)) = packed a 2 b 0 ∷ unsigned c ∷ 0 ∷ []

-- ---- the numbers of the operations; an expect is a read or a predict

abbrev pub add_operation : ℕ
add_operation = 0

abbrev pub evaluate_operation : ℕ
evaluate_operation = 1

abbrev pub read_operation : ℕ
read_operation = 2

abbrev pub predict_operation : ℕ
predict_operation = 3

abbrev pub test_operation : ℕ
test_operation = 4

abbrev pub remove_operation : ℕ
remove_operation = 5

-- nothing is left
abbrev pub nothing_operation : ℕ
nothing_operation = 6

-- ---- instructions: a head word, and the items of an evaluate or a test

-- the operation's number plus 8 times its operand
abbrev pub head_of : ℕ → ℕ → ℕ
head_of operation operand = operation + 8 * operand

abbrev pub symbol_head : Symbol → ℕ
symbol_head (terminal t) = head_of read_operation t
symbol_head (nonterminal n) = head_of predict_operation n

abbrev pub instruction_words : Instruction → ProgramWords
instruction_words (add n) = head_of add_operation n ∷ []
instruction_words (evaluate rs) = head_of evaluate_operation (length rs) ∷ concat (map rule_words rs)
instruction_words (expect x) = symbol_head x ∷ []
instruction_words (test cs) = head_of test_operation (length cs) ∷ concat (map condition_words cs)
instruction_words (remove n) = head_of remove_operation n ∷ []

abbrev pub scheme_words : List Instruction → ProgramWords
scheme_words is = concat (map instruction_words is)

-- the addresses of the expects of a scheme that begins at address a
abbrev pub expects_at : ℕ → List Instruction → ProgramWords
expects_at a [] = []
expects_at a (expect x ∷ is) = a ∷ expects_at (suc a) is
expects_at a (add n ∷ is) = expects_at (a + length (instruction_words (add n))) is
expects_at a (evaluate rs ∷ is) = expects_at (a + length (instruction_words (evaluate rs))) is
expects_at a (test cs ∷ is) = expects_at (a + length (instruction_words (test cs))) is
expects_at a (remove n ∷ is) = expects_at (a + length (instruction_words (remove n))) is

-- ---- bodies

abbrev pub entry_words : Grammar → Production → ProgramWords
entry_words g p = concat (map condition_words (entry_tests g p))

-- how far behind the body's first word the scheme begins
abbrev pub scheme_offset : Grammar → Production → ℕ
scheme_offset g p = length p.right + length (entry_words g p)

-- of the body that begins at address a
abbrev pub body_words : Grammar → ℕ → Production → ProgramWords
body_words g a p = expects_at (a + scheme_offset g p) (scheme g p) ++ (entry_words g p ++ scheme_words (scheme g p))

abbrev pub body_size : Grammar → Production → ℕ
body_size g p = scheme_offset g p + length (scheme_words (scheme g p))

abbrev pub bodies_from : Grammar → ℕ → List Production → ProgramWords
bodies_from g a [] = []
bodies_from g a (p ∷ ps) = body_words g a p ++ bodies_from g (a + body_size g p) ps

-- ---- records: left side, next production of the same left side (its number plus 1, or 0), FIRST-then-FOLLOW as two words, address of the body, number of entry tests, address of the scheme, number of symbols

-- the places k, k + 1, .. of a set, `size` of them, as a number whose first bit is `weight`
abbrev pub set_bits : TokenSet → ℕ → ℕ → ℕ → ℕ
set_bits s k weight zero = 0
set_bits s k weight (suc size) = cond (has s k) weight 0 + set_bits s (suc k) (weight + weight) size

-- the first production of n among ps, whose numbers begin at i, that passes a test: its number plus 1, or 0
abbrev pub first_of : (Production → Bool) → ℕ → List Production → ℕ
first_of f i [] = 0
first_of f i (p ∷ ps) = elim (f p) [ true ↦ suc i | false ↦ first_of f (suc i) ps ]

abbrev pub record_words : Grammar → ℕ → ℕ → Production → List Production → ProgramWords
record_words g a i p later =
    p.left
    ∷ first_of (λ q. eqb q.left p.left) (suc i) later
    ∷ set_bits (starts g p) 0 1 32
    ∷ set_bits (starts g p) 32 1 32
    ∷ a
    ∷ length (entry_tests g p)
    ∷ (a + scheme_offset g p)
    ∷ length p.right
    ∷ []

abbrev pub records_from : Grammar → ℕ → ℕ → List Production → ProgramWords
records_from g a i [] = []
records_from g a i (p ∷ ps) = record_words g a i p ps ++ records_from g (a + body_size g p) (suc i) ps

-- ---- what a place waits at: 12 words for a production, one for each number of symbols passed; 0 where the right side has no symbol behind them

-- of a production of left side l, at symbol x, when the symbols passed have n registers: left side, registers passed, those of x that stand marked, those inherited, x as in the table, and a bit that says that there is a symbol
abbrev pub wait_word : Grammar → ℕ → ℕ → Symbol → ℕ
wait_word g l n x = l + 64 * n + 8192 * marked_for g x + 131072 * inh g x + 2097152 * symbol_byte x + 536870912

abbrev pub waits_from : Grammar → ℕ → ℕ → List Symbol → ProgramWords
waits_from g l n [] = []
waits_from g l n (x ∷ xs) = wait_word g l n x ∷ waits_from g l (n + syn g x) xs

abbrev pub wait_row : Grammar → Production → ProgramWords
wait_row g p = waits_from g p.left 0 p.right ++ replicate (symbols_limit - length p.right) 0

abbrev pub waits : Grammar → ProgramWords
waits g = concat (map (wait_row g) g.productions)

-- ---- where the sections begin, and a production's body and scheme

abbrev pub directory_address : ℕ
directory_address = 9

abbrev pub records_address : Grammar → ℕ
records_address g = directory_address + set_size * nonterminal_count g

abbrev pub waits_address : Grammar → ℕ
waits_address g = records_address g + 8 * length g.productions

abbrev pub bodies_address : Grammar → ℕ
bodies_address g = waits_address g + symbols_limit * length g.productions

-- how many words the bodies before the p-th have
abbrev pub bodies_before : Grammar → ℕ → List Production → ℕ
bodies_before g p ps = total (map (body_size g) (take p ps))

abbrev pub body_address : Grammar → ℕ → ℕ
body_address g p = bodies_address g + bodies_before g p g.productions

abbrev pub scheme_address : Grammar → ℕ → ℕ
scheme_address g p = body_address g p + scheme_offset g (production_at g p)

-- ---- the directory: for a nonterminal and what comes next (63: the end), the first production whose set holds it

-- its number plus 1, or 0
abbrev pub first_alternative : Grammar → ℕ → ℕ → ℕ
first_alternative g n u = first_of (λ p. eqb p.left n && has (starts g p) u) 0 g.productions

-- what is said of a production by its number plus 1: that, and 256 times the address of its scheme where it has no entry tests
abbrev pub entry_of : Grammar → ℕ → ℕ
entry_of g zero = 0
entry_of g (suc p) = suc p + 256 * cond (eqb (length (entry_tests g (production_at g p))) 0) (scheme_address g p) 0

abbrev pub directory_word : Grammar → ℕ → ℕ → ℕ
directory_word g n u = entry_of g (first_alternative g n u)

abbrev pub directory : Grammar → ProgramWords
directory g = concat (map (λ n. map (directory_word g n) (count_from 0 set_size)) (count_from 0 (nonterminal_count g)))

-- ---- the whole

-- 02 (e): the terminals that tag 6 names
abbrev pub carriers : Grammar → TokenSet
carriers g = map (λ t. any (eqb t) g.carrying) (count_from 0 set_size)

-- the whole segment's scheme: its expect, and a word that says that nothing is left; where the records begin; the number of terminals; the start symbol's registers; the result attribute; the number of productions; the terminals that carry a value, as two words
abbrev pub segment_words : Grammar → ProgramWords
segment_words g =
    symbol_head (nonterminal g.start)
    ∷ nothing_operation
    ∷ records_address g
    ∷ g.terminals
    ∷ syn g (nonterminal g.start)
    ∷ g.result
    ∷ length g.productions
    ∷ set_bits (carriers g) 0 1 32
    ∷ set_bits (carriers g) 32 1 32
    ∷ []

abbrev pub program_of : ProgramBuilder
program_of g = segment_words g ++ (directory g ++ (records_from g (bodies_address g) 0 g.productions ++ (waits g ++ bodies_from g (bodies_address g) g.productions)))
