-- How a grammar is laid out in a table's bytes, as a relation: rules and conditions of a production come in any order, so a grammar has several
-- tables. 01: "fields: one-byte tag, two-byte length, body. Numbers are unsigned and big-endian; constants and bounds are four-byte two's complement.
-- Every other number in a body is one byte, so an occurrence is two."
use Rattle.std.specs.Prelude.{ℕ, ◌+◌, ◌-◌, ◌/◌, ◌%◌, ◌<◌, ◌≡◌, List, [], ◌∷◌, ◌++◌, map, length, ℤ, pos, negsuc}
use Rattle.std.proofs.Math.Option.{none, some}
use Rattle.meaning.specs.Base.{In}
use Rattle.meaning.specs.Limits.{highest_word}
use Rattle.meaning.specs.Grammar.{Symbol, terminal, nonterminal, Occurrence, Function, const, copy, binary, binary_number, addc, quot, Rule, Condition, range, atmost, Production, Counts, Grammar, nonterminal_count, nonterminal_base, TableBytes, FieldBody}

-- ---- tags: the header; the counts of a nonterminal; a production, its rules and conditions; 02 (e): a terminal that carries a value

abbrev pub header_tag : ℕ
header_tag = 1

abbrev pub counts_tag : ℕ
counts_tag = 2

abbrev pub production_tag : ℕ
production_tag = 3

abbrev pub rule_tag : ℕ
rule_tag = 4

abbrev pub condition_tag : ℕ
condition_tag = 5

abbrev pub carrier_tag : ℕ
carrier_tag = 6

-- ---- numbers

abbrev pub field : ℕ → FieldBody → TableBytes
field tag body = tag ∷ length body / 256 ∷ length body % 256 ∷ body

abbrev pub unsigned : ℤ → ℕ
unsigned (pos n) = n
unsigned (negsuc n) = highest_word - n

abbrev pub four_bytes : ℕ → List ℕ
four_bytes n = n / 16777216 % 256 ∷ n / 65536 % 256 ∷ n / 256 % 256 ∷ n % 256 ∷ []

abbrev pub constant_bytes : ℤ → List ℕ
constant_bytes c = four_bytes (unsigned c)

abbrev pub occurrence_bytes : Occurrence → List ℕ
occurrence_bytes o = o.position ∷ o.attribute ∷ []

abbrev pub symbol_byte : Symbol → ℕ
symbol_byte (terminal t) = t
symbol_byte (nonterminal n) = nonterminal_base + n

-- ---- bodies

-- 01: "T .., N .., start nonterminal, index of its result attribute"
abbrev pub header_bytes : Grammar → FieldBody
header_bytes g = g.terminals ∷ nonterminal_count g ∷ g.start ∷ g.result ∷ []

abbrev pub counts_bytes : Counts → FieldBody
counts_bytes c = c.inherited ∷ c.synthesized ∷ []

abbrev pub production_bytes : Production → FieldBody
production_bytes p = p.left ∷ length p.right ∷ map symbol_byte p.right

-- 01: "function, operands. Functions: 0 const c; 1 copy a; 2 sum a b; 3 diff a b; 4 prod a b; 5 max a b; 6 min a b; 7 addc a c; 8 quot a c"
abbrev pub function_bytes : Function Occurrence → List ℕ
function_bytes (const c) = 0 ∷ constant_bytes c
function_bytes (copy a) = 1 ∷ occurrence_bytes a
function_bytes (binary f a b) = binary_number f ∷ occurrence_bytes a ++ occurrence_bytes b
function_bytes (addc a c) = 7 ∷ occurrence_bytes a ++ constant_bytes c
function_bytes (quot a c) = 8 ∷ occurrence_bytes a ++ constant_bytes c

abbrev pub rule_bytes : Rule Occurrence → FieldBody
rule_bytes r = occurrence_bytes r.target ++ function_bytes r.function

-- 01: "kind 0, occurrence, low, high; kind 1, two occurrences"; 02 (j): "kind 2, two occurrences and a constant"
abbrev pub condition_bytes : Condition Occurrence → FieldBody
condition_bytes (range o l h) = 0 ∷ occurrence_bytes o ++ (constant_bytes l ++ constant_bytes h)
condition_bytes (atmost o u none) = 1 ∷ occurrence_bytes o ++ occurrence_bytes u
condition_bytes (atmost o u (some c)) = 2 ∷ occurrence_bytes o ++ (occurrence_bytes u ++ constant_bytes c)

-- ---- the table

-- 01: "After a production its rules and conditions come in any order."
pub data RulesAndConditions : List (Rule Occurrence) → List (Condition Occurrence) → TableBytes → Type 0 where
  nothing : RulesAndConditions [] [] []
  rule : (r : Rule Occurrence) {rs : List (Rule Occurrence)} {cs : List (Condition Occurrence)} {bs : TableBytes} → RulesAndConditions rs cs bs → RulesAndConditions (r ∷ rs) cs (field rule_tag (rule_bytes r) ++ bs)
  condition : (c : Condition Occurrence) {rs : List (Rule Occurrence)} {cs : List (Condition Occurrence)} {bs : TableBytes} → RulesAndConditions rs cs bs → RulesAndConditions rs (c ∷ cs) (field condition_tag (condition_bytes c) ++ bs)

pub data Productions : List Production → TableBytes → Type 0 where
  nothing : Productions [] []
  production : (p : Production) {ps : List Production} {body rest : TableBytes} → RulesAndConditions p.rules p.conditions body → Productions ps rest → Productions (p ∷ ps) (field production_tag (production_bytes p) ++ (body ++ rest))

abbrev pub counts_fields : List Counts → TableBytes
counts_fields [] = []
counts_fields (c ∷ cs) = field counts_tag (counts_bytes c) ++ counts_fields cs

-- 02 (e): "tag 6, one byte, after the tag 2 fields .., names a terminal"
abbrev pub carrying_fields : List ℕ → TableBytes
carrying_fields [] = []
carrying_fields (t ∷ ts) = field carrier_tag (t ∷ []) ++ carrying_fields ts

pub record LaidOut (g : Grammar) (bs : TableBytes) : Type 0 where
  pub rest : TableBytes
  pub productions : Productions g.productions rest
  pub is_table : bs ≡ field header_tag (header_bytes g) ++ (counts_fields g.counts ++ (carrying_fields g.carrying ++ rest))

-- a table is a list of bytes
abbrev pub Bytes : List ℕ → Type 0
Bytes bs = (b : ℕ) → In b bs → b < 256
