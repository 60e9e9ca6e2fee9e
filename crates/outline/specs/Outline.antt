-- The outline of a table that is read whole: what the lent arrays, and the numbers beside them, say of its grammar.
use Rattle.std.specs.Prelude.{ℕ, ◌<◌, ◌≡◌, List, reverse, eqb, get_or, length}
use Rattle.std.proofs.Common.{arith, ap}
use Rattle.std.proofs.lemmas.List.{length-map, length-reverse}
use Rattle.meaning.specs.Limits.{nonterminals_limit, productions_limit}
use Rattle.meaning.specs.Base.{any}
use Rattle.meaning.specs.Grammar.{Grammar, nonterminal, inh, syn, nonterminal_count, production_at}
use Rattle.meaning.specs.Judgement.{entry_offset}
use Rattle.meaning.specs.Sets.{has, starts}
use Rattle.meaning.specs.Table.{State, Read, well_formed, malformed, nothing_read, read_table, production_of, grammar_of}
use Rattle.token_set.specs.SetBits.{set_of}
use Rattle.outline.specs.declared.Sizes.{Sizes}
use Rattle.outline.specs.Images.{ImageOf, rows_length}

-- ---- what is read of a table; of a malformed one nothing

abbrev state_read : Read → State
state_read (well_formed s) = s
state_read (malformed n o) = nothing_read

unfoldable pub state_in : List ℕ → State
state_in t = state_read (read_table t)

unfoldable pub grammar_in : List ℕ → Grammar
grammar_in t = grammar_of (state_in t)

pub state_read_lem : (t : List ℕ) (s : State) → read_table t ≡ well_formed s → state_in t ≡ s
unfolding state_in
state_read_lem t s e = ap state_read e

pub grammar_read : (t : List ℕ) (s : State) → read_table t ≡ well_formed s → grammar_in t ≡ grammar_of s
unfolding grammar_in
grammar_read t s e = ap grammar_of (state_read_lem t s e)

-- ---- the parts of an outline, and of what the analysis adds, each by the grammar

-- a word holds exactly the terminals of a list
pub record Carries (word : ℕ) (ws : List ℕ) : Type 0 where
  pub each : (t : ℕ) → has (set_of word) t ≡ any (eqb t) ws

-- the numbers of a grammar, but for that of its productions
pub record NumbersOf (sizes : Sizes) (g : Grammar) : Type 0 where
  pub terminals : sizes.terminals ≡ g.terminals
  pub nonterminals : sizes.nonterminals ≡ nonterminal_count g
  pub start : sizes.start ≡ g.start
  pub result : sizes.result ≡ g.result
  pub carrying : Carries sizes.carrying.0 g.carrying

-- the counts of its nonterminals
pub record CountsOf (inherited synthesized : List ℕ) (g : Grammar) : Type 0 where
  pub inherits : (n : ℕ) → n < nonterminal_count g → get_or inherited n 0 ≡ inh g (nonterminal n)
  pub synthesizes : (n : ℕ) → n < nonterminal_count g → get_or synthesized n 0 ≡ syn g (nonterminal n)

-- FIRST-then-FOLLOW of each production
abbrev pub Starting : Grammar → ℕ → List ℕ → Type 0
Starting g count sets = (p : ℕ) → p < count → set_of (get_or sets p 0) ≡ starts g (production_at g p)

-- ---- the outline

-- the productions of a table: their rows, and the offsets of their fields
pub record Productions (t rows offsets : List ℕ) (count : ℕ) : Type 0 where
  pub is_read : read_table t ≡ well_formed (state_in t)
  pub rows_of : ImageOf rows count (grammar_in t)
  pub offset : (p : ℕ) → p < count → get_or offsets p 0 ≡ entry_offset (state_in t) p

pub record Outline (t : List ℕ) (sizes : Sizes) (inherited synthesized rows offsets : List ℕ) : Type 0 where
  pub productions : Productions t rows offsets sizes.productions
  pub numbers : NumbersOf sizes (grammar_in t)
  pub counts : CountsOf inherited synthesized (grammar_in t)
  pub lengths : (length inherited ≡ nonterminals_limit) × (length synthesized ≡ nonterminals_limit) × (length rows ≡ rows_length) × (length offsets ≡ productions_limit)

-- the outline of an accepted table, with the sets of its productions
pub record Outlined (t : List ℕ) (sizes : Sizes) (inherited synthesized rows offsets sets : List ℕ) : Type 0 where
  pub outline : Outline t sizes inherited synthesized rows offsets
  pub starting : Starting (grammar_in t) sizes.productions sets

-- as many productions as were read
pub entries_are : {t rows offsets : List ℕ} {count : ℕ} → Productions t rows offsets count → count ≡ length (state_in t).entries
unfolding grammar_in
entries_are {t} x = omega (arith, x.rows_of.counted, length-map (reverse (state_in t).entries) production_of, length-reverse (state_in t).entries)
