-- What the builder has of one production: its row (left side, length, symbols as the table has them), the bytes of its rules and conditions, and the attribute counts of all nonterminals.
use Prim.Native.Nat.{ℕ, suc, ◌+◌, ◌-◌, ◌*◌, ◌≤◌, ◌<◌}
use native.Mathlib.Omega.{arith}
use Rattle.std.specs.Prelude.{◌≡◌, refl, Bool, true, false, cond, List, [], ◌∷◌, ◌++◌, length, set, drop, ltb}
use Rattle.std.proofs.Common.{sym, ◌∙◌, subst, append_assoc, length-append, drop_of_length-le, drop-cons}
use Rattle.std.proofs.Math.Path.{ap}
use Rattle.meaning.specs.Limits.{area_length, table_limit, symbols_limit}
use Rattle.meaning.specs.Grammar.{Symbol, terminal, nonterminal, Production, Grammar, inh, syn, marked_for, attribute_if, symbol_at, nonterminal_count, nonterminal_base}
use Rattle.meaning.specs.Rules.{Known, WellFormed, WellFormedProduction}
use Rattle.meaning.specs.Layout.{RulesAndConditions}
use Rattle.meaning.specs.Scheme.{Instruction, scheme, symbols_scheme, entry_tests}
use Rattle.meaning.specs.Sets.{has}
use Rattle.meaning.specs.Program.{wait_row, symbol_head, scheme_words, expects_at, entry_words, scheme_offset, body_words, body_size, head_of, read_operation, predict_operation}
use Rattle.meaning.specs.Table.{byte, symbol_of}
use Rattle.theory_base.specs.Members.{get_d_in}
use Rattle.theory_program.specs.Code.{conditions_length}
use Rattle.token_set.specs.SetBits.{set_of}
use Rattle.outline.specs.Images.{left_in, size_in_value, symbol_in}
use Rattle.outline.specs.Outline.{CountsOf}
use Rattle.outline.specs.Counts.{count_at_value, synthesized_at}
use Rattle.program_block_words.specs.Patch.{patch, Wrote}
use Rattle.program_block_words.specs.Fields.{Listed}
use Rattle.program_block_words.specs.Chains.{Found}
use Rattle.program_body_words.specs.Levels.{Leveled}
use Rattle.program_body_words.specs.SchemeWords.{symbol_words, ahead_size, scheme_symbol, expects_symbol, end_scheme, end_words, scheme_end_lem, expects_end}

pub record OfProduction (row fields inherited synthesized : List ℕ) : Type 0 where
  pub grammar : Grammar
  pub production : Production
  pub well_formed : WellFormed grammar
  pub of_grammar : WellFormedProduction grammar production
  pub left : left_in row ≡ production.left
  pub size : size_in_value row ≡ length production.right
  pub symbols : (k : ℕ) → k < length production.right → symbol_of (symbol_in row k) ≡ symbol_at production (suc k)
  pub counts : CountsOf inherited synthesized grammar
  pub own : RulesAndConditions production.rules production.conditions fields
  pub short : length fields ≤ table_limit

abbrev pub right_of : {row fields inherited synthesized : List ℕ} → OfProduction row fields inherited synthesized → List Symbol
right_of x = x.production.right

abbrev pub listed_of : {row fields inherited synthesized : List ℕ} → OfProduction row fields inherited synthesized → Listed fields
listed_of x = record { rules = x.production.rules; conditions = x.production.conditions; own = x.own; constants = x.of_grammar.constants; proper = x.of_grammar.proper }

-- ---- symbols by their bytes

-- a word holds the terminals of a grammar that have an attribute
abbrev pub Carried : ℕ → Grammar → Type 0
Carried carrying g = (t : ℕ) → attribute_if (has (set_of carrying) t) ≡ syn g (terminal t)

unfoldable pub expect_head : ℕ → ℕ
expect_head b = cond (ltb b nonterminal_base) (head_of read_operation b) (head_of predict_operation (b - nonterminal_base))

abbrev symbol_by : Bool → ℕ → Symbol
symbol_by c b = elim c as (λ z. Symbol) [ true ↦ terminal b | false ↦ nonterminal (b - nonterminal_base) ]

pub head_is : (b : ℕ) → expect_head b ≡ symbol_head (symbol_of b)
unfolding expect_head
head_is b = go (ltb b nonterminal_base)
  where
    go : (c : Bool) → cond c (head_of read_operation b) (head_of predict_operation (b - nonterminal_base)) ≡ symbol_head (symbol_by c b)
    go true = refl
    go false = refl

pub count_by : (g : Grammar) (counts : List ℕ) (f : Symbol → ℕ) → ((t : ℕ) → f (terminal t) ≡ 0) → ((n : ℕ) → n < nonterminal_count g → byte counts n ≡ f (nonterminal n)) → (b : ℕ) → Known g (symbol_of b) → count_at_value counts b ≡ f (symbol_of b)
unfolding count_at_value
count_by g counts f ft fn b kn = go (ltb b nonterminal_base) kn
  where
    go : (c : Bool) → Known g (symbol_by c b) → cond c 0 (byte counts (b - nonterminal_base)) ≡ f (symbol_by c b)
    go true h = sym (ft b)
    go false h = fn (b - nonterminal_base) h

pub synthesized_by : (g : Grammar) (carrying : ℕ) → Carried carrying g → (counts : List ℕ) → ((n : ℕ) → n < nonterminal_count g → byte counts n ≡ syn g (nonterminal n)) → (b : ℕ) → Known g (symbol_of b) → synthesized_at carrying counts b ≡ syn g (symbol_of b)
unfolding synthesized_at
synthesized_by g carrying ft counts fn b kn = go (ltb b nonterminal_base) kn
  where
    go : (c : Bool) → Known g (symbol_by c b) → cond c (attribute_if (has (set_of carrying) b)) (byte counts (b - nonterminal_base)) ≡ syn g (symbol_by c b)
    go true h = ft b
    go false h = fn (b - nonterminal_base) h

module _ {row fields inherited synthesized : List ℕ} (x : OfProduction row fields inherited synthesized) where
  known : (k : ℕ) → k < length (right_of x) → Known x.grammar (symbol_at x.production (suc k))
  known k l = x.of_grammar.symbols (symbol_at x.production (suc k)) (get_d_in (right_of x) k (terminal 0) l)

  known_byte : (k : ℕ) → k < length (right_of x) → Known x.grammar (symbol_of (byte row (k + 2)))
  known_byte k l = subst (Known x.grammar) (sym (x.symbols k l)) (known k l)

  count_at : (counts : List ℕ) (f : Symbol → ℕ) → ((t : ℕ) → f (terminal t) ≡ 0) → ((n : ℕ) → n < nonterminal_count x.grammar → byte counts n ≡ f (nonterminal n)) → (k : ℕ) → k < length (right_of x) → count_at_value counts (byte row (k + 2)) ≡ f (symbol_at x.production (suc k))
  count_at counts f ft fn k l = count_by x.grammar counts f ft fn (byte row (k + 2)) (known_byte k l) ∙ ap f (x.symbols k l)

  pub inherited_at : (k : ℕ) → k < length (right_of x) → count_at_value inherited (byte row (k + 2)) ≡ inh x.grammar (symbol_at x.production (suc k))
  inherited_at k l = count_at inherited (inh x.grammar) (λ t. refl) x.counts.inherits k l

  pub marked_at : (k : ℕ) → k < length (right_of x) → count_at_value synthesized (byte row (k + 2)) ≡ marked_for x.grammar (symbol_at x.production (suc k))
  marked_at k l = count_at synthesized (marked_for x.grammar) (λ t. refl) x.counts.synthesizes k l

  pub synthesized_at_lem : (carrying : ℕ) → Carried carrying x.grammar → (k : ℕ) → k < length (right_of x) → synthesized_at carrying synthesized (byte row (k + 2)) ≡ syn x.grammar (symbol_at x.production (suc k))
  synthesized_at_lem carrying c k l = synthesized_by x.grammar carrying c synthesized x.counts.synthesizes (byte row (k + 2)) (known_byte k l) ∙ ap (syn x.grammar) (x.symbols k l)

  pub head_at : (k : ℕ) → k < length (right_of x) → expect_head (byte row (k + 2)) ≡ symbol_head (symbol_at x.production (suc k))
  head_at k l = head_is (byte row (k + 2)) ∙ ap symbol_head (x.symbols k l)

  pub left_inherited : byte inherited (byte row 0) ≡ inh x.grammar (nonterminal x.production.left)
  left_inherited = ap (byte inherited) x.left ∙ x.counts.inherits x.production.left x.of_grammar.left

-- ---- what is computed first: the rules and conditions of each position, and the levels

pub record Prepared (row fields inherited synthesized marks links levels : List ℕ) : Type 0 where
  pub given : OfProduction row fields inherited synthesized
  pub found : Found fields links marks (listed_of given)
  pub leveled : Leveled given.grammar given.production levels

abbrev pub words_at : {row fields inherited synthesized : List ℕ} → OfProduction row fields inherited synthesized → ℕ → List ℕ
words_at x k = symbol_words x.grammar x.production (suc k) (symbol_at x.production (suc k))

-- the words of its symbol before the expect
abbrev pub ahead_at : {row fields inherited synthesized : List ℕ} → OfProduction row fields inherited synthesized → ℕ → ℕ
ahead_at x k = ahead_size x.grammar x.production (suc k) (symbol_at x.production (suc k))

-- there is room for the words of the symbol at position k + 1, behind that for the address of its expect
pub record SymbolFits (row fields inherited synthesized marks links levels : List ℕ) (k : ℕ) (area : List ℕ) (a e : ℕ) : Type 0 where
  pub prepared : Prepared row fields inherited synthesized marks links levels
  pub here : k < length (right_of prepared.given)
  pub room : a + length (words_at prepared.given k) ≤ area_length
  pub long : area_length ≤ length area
  pub apart : e + k < a

-- they are written, and the address of the expect
abbrev pub SymbolWrote : {row fields inherited synthesized marks links levels : List ℕ} {k : ℕ} {area : List ℕ} {a e : ℕ} → SymbolFits row fields inherited synthesized marks links levels k area a e → List ℕ → ℕ → Type 0
SymbolWrote {k = k} {area = area} {a = a} {e = e} x new next = Wrote (set area (e + k) (a + ahead_at x.prepared.given k)) new a next (words_at x.prepared.given k)

-- ---- all symbols

abbrev pub symbols_words : Grammar → Production → ℕ → List Symbol → List ℕ
symbols_words g p k [] = []
symbols_words g p k (x ∷ xs) = symbol_words g p k x ++ symbols_words g p (suc k) xs

-- from position k + 1 on
unfoldable pub rest_words : Grammar → Production → ℕ → List ℕ
rest_words g p k = symbols_words g p (suc k) (drop k p.right)

-- the addresses of the expects from position k + 1 on, where its instructions begin at a
unfoldable pub rest_expects : Grammar → Production → ℕ → ℕ → List ℕ
rest_expects g p k a = expects_at a (symbols_scheme g p (suc k) (drop k p.right) (end_scheme g p))

pub record SymbolsFit (row fields inherited synthesized marks links levels area : List ℕ) (a e : ℕ) : Type 0 where
  pub prepared : Prepared row fields inherited synthesized marks links levels
  pub room : a + length (rest_words prepared.given.grammar prepared.given.production 0) ≤ area_length
  pub long : area_length ≤ length area
  pub apart : e + length (rest_expects prepared.given.grammar prepared.given.production 0 a) ≤ a

-- the words of all symbols are written, and the addresses of their expects
abbrev pub SymbolsWrote : {row fields inherited synthesized marks links levels area : List ℕ} {a e : ℕ} → SymbolsFit row fields inherited synthesized marks links levels area a e → List ℕ → ℕ → Type 0
SymbolsWrote {area = area} {a = a} {e = e} x new next =
    Wrote (patch area e (rest_expects x.prepared.given.grammar x.prepared.given.production 0 a)) new a next (rest_words x.prepared.given.grammar x.prepared.given.production 0)

pub record EndFits (row fields inherited marks links levels area : List ℕ) (a : ℕ) : Type 0 where
  pub synthesized : List ℕ
  pub prepared : Prepared row fields inherited synthesized marks links levels
  pub room : a + length (end_words prepared.given.grammar prepared.given.production) ≤ area_length
  pub long : area_length ≤ length area

-- ---- the whole body

pub record BodyFits (row fields inherited synthesized : List ℕ) (carrying : ℕ) (marks links area : List ℕ) (a wait : ℕ) : Type 0 where
  pub given : OfProduction row fields inherited synthesized
  pub carried : Carried carrying given.grammar
  pub found : Found fields links marks (listed_of given)
  pub room : a + body_size given.grammar given.production ≤ area_length
  pub long : area_length ≤ length area
  pub apart : wait + symbols_limit ≤ a

-- it is written, and what the places wait at
abbrev pub BodyWrote : {row fields inherited synthesized : List ℕ} {carrying : ℕ} {marks links area : List ℕ} {a wait : ℕ} → BodyFits row fields inherited synthesized carrying marks links area a wait → List ℕ → ℕ → Type 0
BodyWrote {area = area} {a = a} {wait = wait} x new next = Wrote (patch area wait (wait_row x.given.grammar x.given.production)) new a next (body_words x.given.grammar a x.given.production)

-- ---- laws

module _ (g : Grammar) (p : Production) where
  pub words_turn : (k : ℕ) → k < length p.right → rest_words g p k ≡ symbol_words g p (suc k) (symbol_at p (suc k)) ++ rest_words g p (k + 1)
  unfolding rest_words
  words_turn k l =
      let e : k + 1 ≡ suc k = omega arith in
      rw e (ap (symbols_words g p (suc k)) (drop-cons p.right k (terminal 0) l))

  pub words_end : (k : ℕ) → length p.right ≤ k → rest_words g p k ≡ []
  unfolding rest_words
  words_end k l = ap (symbols_words g p (suc k)) (drop_of_length-le p.right {i = k} l)

  pub expects_turn : (k a : ℕ) → k < length p.right → rest_expects g p k a ≡ (a + ahead_size g p (suc k) (symbol_at p (suc k))) ∷ rest_expects g p (k + 1) (a + length (symbol_words g p (suc k) (symbol_at p (suc k))))
  unfolding rest_expects
  expects_turn k a l =
      let e : k + 1 ≡ suc k = omega arith in
      rw e (ap (λ z. expects_at a (symbols_scheme g p (suc k) z (end_scheme g p))) (drop-cons p.right k (terminal 0) l) ∙ expects_symbol g p (suc k) (symbol_at p (suc k)) (symbols_scheme g p (suc (suc k)) (drop (suc k) p.right) (end_scheme g p)) a)

  pub expects_over : (k a : ℕ) → length p.right ≤ k → rest_expects g p k a ≡ []
  unfolding rest_expects
  expects_over k a l = ap (λ z. expects_at a (symbols_scheme g p (suc k) z (end_scheme g p))) (drop_of_length-le p.right {i = k} l) ∙ expects_end g p a

  symbols_scheme_lem : (k : ℕ) (xs : List Symbol) (rest : List Instruction) → scheme_words (symbols_scheme g p k xs rest) ≡ symbols_words g p k xs ++ scheme_words rest
  symbols_scheme_lem k [] rest = refl
  symbols_scheme_lem k (x ∷ xs) rest =
      scheme_symbol g p k x (symbols_scheme g p (suc k) xs rest)
      ∙ (ap (λ z. symbol_words g p k x ++ z) (symbols_scheme_lem (suc k) xs rest) ∙ sym (append_assoc (symbol_words g p k x) (symbols_words g p (suc k) xs) (scheme_words rest)))

  pub scheme_words_lem : scheme_words (scheme g p) ≡ rest_words g p 0 ++ end_words g p
  unfolding rest_words
  scheme_words_lem = symbols_scheme_lem 1 p.right (end_scheme g p) ∙ ap (λ z. symbols_words g p 1 p.right ++ z) (scheme_end_lem g p)

  pub body_words_lem : (a : ℕ) → body_words g a p ≡ rest_expects g p 0 (a + scheme_offset g p) ++ (entry_words g p ++ (rest_words g p 0 ++ end_words g p))
  unfolding rest_expects
  body_words_lem a = ap (λ z. expects_at (a + scheme_offset g p) (scheme g p) ++ (entry_words g p ++ z)) scheme_words_lem

  pub body_size_lem : body_size g p ≡ length p.right + 3 * length (entry_tests g p) + length (rest_words g p 0) + length (end_words g p)
  body_size_lem = omega (arith, ap length scheme_words_lem, length-append (rest_words g p 0) (end_words g p), conditions_length (entry_tests g p))
