-- What 01 and 001 ask of a grammar, clause by clause: a table's refusals 4 to 10 say that one of these fails. (That a table is read without such a refusal exactly where a grammar that meets them is laid out in it is proved in theory_table.)
use Rattle.std.specs.Prelude.{ℕ, zero, suc, ◌+◌, ◌≤◌, ◌<◌, ◌≡◌, List, [], ◌∷◌, map, length, T, ℤ, pos, negsuc, Bool, ◌&&◌}
use Rattle.std.specs.Int.Signed.{le_z}
use Rattle.std.proofs.Math.Option.{none, some}
use Rattle.meaning.specs.Base.{In, total}
use Rattle.meaning.specs.Limits.{terminals_limit, nonterminals_limit, attributes_limit, productions_limit, symbols_limit, rules_limit, conditions_limit, divisor_limit}
use Rattle.meaning.specs.Grammar.{Symbol, terminal, nonterminal, Occurrence, Function, const, copy, binary, addc, quot, Rule, Condition, range, atmost, Production, Counts, Grammar, inh, syn, att, symbol_at, nonterminal_count}

-- ---- what is said of each operand

abbrev pub Operands : {O : Type 0} → (O → Type 0) → Function O → Type 0
Operands P (const c) = Unit {0}
Operands P (copy a) = P a
Operands P (binary f a b) = P a × P b
Operands P (addc a c) = P a
Operands P (quot a c) = P a

abbrev pub Reads : {O : Type 0} → (O → Type 0) → Condition O → Type 0
Reads P (range a l h) = P a
Reads P (atmost a b c) = P a × P b

-- ---- occurrences

-- 01: "Inherited occurrences on the left and synthesized ones on the right are inputs, the others outputs." Both are occurrences that the production has
abbrev pub InputAt : Grammar → Production → ℕ → ℕ → Type 0
InputAt g p zero a = (1 ≤ a) × (a ≤ inh g (nonterminal p.left))
InputAt g p (suc i) a = (i < length p.right) × (inh g (symbol_at p (suc i)) < a) × (a ≤ att g (symbol_at p (suc i)))

abbrev pub OutputAt : Grammar → Production → ℕ → ℕ → Type 0
OutputAt g p zero a = (inh g (nonterminal p.left) < a) × (a ≤ att g (nonterminal p.left))
OutputAt g p (suc i) a = (i < length p.right) × (1 ≤ a) × (a ≤ inh g (symbol_at p (suc i)))

abbrev pub Input : Grammar → Production → Occurrence → Type 0
Input g p o = InputAt g p o.position o.attribute

abbrev pub Output : Grammar → Production → Occurrence → Type 0
Output g p o = OutputAt g p o.position o.attribute

-- 01: "Rules and conditions read inputs only. A rule for an inherited attribute of symbol k reads positions below k." k is the position of the occurrence set
abbrev pub Operand : Grammar → Production → ℕ → Occurrence → Type 0
Operand g p zero o = Input g p o
Operand g p (suc k) o = Input g p o × (o.position ≤ k)

-- ---- symbols, constants, conditions

abbrev pub Known : Grammar → Symbol → Type 0
Known g (terminal t) = t < g.terminals
Known g (nonterminal n) = n < nonterminal_count g

-- 01: "constants and bounds are four-byte two's complement": the one place where their limits stand
abbrev pub lowest_constant : ℤ
lowest_constant = negsuc 2147483647

abbrev pub highest_constant : ℤ
highest_constant = pos 2147483647

abbrev pub four_bytes : ℤ → Bool
four_bytes c = le_z lowest_constant c && le_z c highest_constant

abbrev pub InFourBytes : ℤ → Type 0
InFourBytes c = T (le_z lowest_constant c) × T (le_z c highest_constant)

-- 01: "quot a c, toward zero, c from 1 to 1,000,000"; to the nearest since 02 (f)
abbrev pub Constant : {O : Type 0} → Function O → Type 0
Constant (const c) = InFourBytes c
Constant (copy a) = Unit {0}
Constant (binary f a b) = Unit {0}
Constant (addc a c) = InFourBytes c
Constant (quot a c) = T (le_z (pos 1) c) × T (le_z c (pos divisor_limit))

-- 10. 02 (j): "constants and range bounds remain four bytes" (d); "Number 10 keeps only low above high."
abbrev pub Proper : Condition Occurrence → Type 0
Proper (range o l h) = InFourBytes l × InFourBytes h × T (le_z l h)
Proper (atmost o u none) = Unit {0}
Proper (atmost o u (some c)) = InFourBytes c

-- ---- a production

-- no occurrence is set twice
abbrev pub Distinct : List (Rule Occurrence) → Type 0
Distinct [] = Unit {0}
Distinct (r ∷ rs) = ((q : Rule Occurrence) → In q rs → q.target ≡ r.target → ⊥) × Distinct rs

pub record WellFormedProduction (g : Grammar) (p : Production) : Type 0 where
  pub left : p.left < nonterminal_count g
  -- 01: "right-side length (0 to 12)"
  pub short : length p.right ≤ symbols_limit
  pub symbols : (x : Symbol) → In x p.right → Known g x
  -- 01: "Each output has one rule."
  pub targets : (r : Rule Occurrence) → In r p.rules → Output g p r.target
  pub distinct : Distinct p.rules
  pub every : (o : Occurrence) → Output g p o → (r : Rule Occurrence) × In r p.rules × (r.target ≡ o)
  pub operands : (r : Rule Occurrence) → In r p.rules → Operands (Operand g p r.target.position) r.function
  pub constants : (r : Rule Occurrence) → In r p.rules → Constant r.function
  pub reads : (c : Condition Occurrence) → In c p.conditions → Reads (Input g p) c
  pub proper : (c : Condition Occurrence) → In c p.conditions → Proper c

-- ---- the whole grammar

-- 02 (e): "in rising order"
abbrev pub Rising : List ℕ → Type 0
Rising [] = Unit {0}
Rising (t ∷ ts) = ((u : ℕ) → In u ts → t < u) × Rising ts

pub record WellFormed (g : Grammar) : Type 0 where
  -- 01: "terminals T (1 to 63), nonterminals N (1 to 48), start nonterminal, index of its result attribute"
  pub terminals : (1 ≤ g.terminals) × (g.terminals ≤ terminals_limit)
  pub nonterminals : (1 ≤ nonterminal_count g) × (nonterminal_count g ≤ nonterminals_limit)
  pub start : g.start < nonterminal_count g
  -- 01: "inherited count, synthesized count; together at most 8"
  pub attributes : (c : Counts) → In c g.counts → c.inherited + c.synthesized ≤ attributes_limit
  -- 02 (e): "a number that is no terminal or doesn't rise is a 5"
  pub carriers : (t : ℕ) → In t g.carrying → t < g.terminals
  pub rising : Rising g.carrying
  -- 01: "6 start symbol with inherited attributes or without the result attribute"
  pub start_alone : inh g (nonterminal g.start) ≡ 0
  pub result : (1 ≤ g.result) × (g.result ≤ syn g (nonterminal g.start))
  -- 01: "1 to 128 productions", "At most 1,024 rules", "At most 512 [conditions]"
  pub productions : (1 ≤ length g.productions) × (length g.productions ≤ productions_limit)
  pub rules : total (map (λ p. length p.rules) g.productions) ≤ rules_limit
  pub conditions : total (map (λ p. length p.conditions) g.productions) ≤ conditions_limit
  pub each : (p : Production) → In p g.productions → WellFormedProduction g p
