-- What the program says of a grammar's places: one word a place, and the start symbol's registers.
use Rattle.std.specs.Prelude.{ℕ, ◌+◌, ◌-◌, ◌*◌, ◌≤◌, ◌<◌, ◌≡◌, Bool, ◌&&◌, not, List, ◌++◌, get_or, length, replicate, T, eqb, ltb}
use Rattle.std.proofs.Common.{arith, sym, ap, ap₂, ◌∙◌, subst, ltb→lt}
use Rattle.std.proofs.Math.Path.{refl}
use Rattle.std.proofs.Math.Bool.{true, false, cond}
use borrow.Author.Tests.{lt-ltb, le-ltb, ltb-true, ltb-false, eq-eqb, ne_eqb, eqb-true, eqb-false}
use Rattle.meaning.specs.Limits.{registers_limit, nonterminals_limit, symbols_limit}
use Rattle.meaning.specs.Grammar.{nonterminal, Grammar, production_at, syn, is_nonterminal, place_production, place_passed, nonterminal_base}
use Rattle.meaning.specs.Rules.{WellFormed}
use Rattle.meaning.specs.Table.{symbol_of}
use Rattle.meaning.specs.Calls.{Cell, valued, marked, awaited}
use Rattle.theory_table.specs.Numbers.{symbol_terminal, symbol_nonterminal}
use Rattle.theory_base.specs.Members.{true→T, both}
use Rattle.theory_base.specs.WellFormed.{well_formed_at}
use Rattle.theory_program.specs.Parts.{head_operand, wait_left, wait_passed, wait_marked, wait_inherited, wait_symbol}
use Rattle.theory_program.specs.WordsStand.{stands_within}
use Rattle.theory_program.specs.Addresses.{Begins, wait_address, wait_row_at, wait_row_length, segment_at}
use Rattle.theory_program.specs.Records.{segment_words_lem}
use Rattle.theory_program.specs.Proper.{att_most}
use Rattle.theory_program.specs.Waits.{Waits, place_waits_lem, place_rests}
use Rattle.run_fit.specs.Upward.{stretches, place_on, cells_of}

-- the program of a well-formed grammar
pub record HasProgram (g : Grammar) (ws : List ℕ) : Type 0 where
  pub formed : WellFormed g
  pub begins : Begins g ws

pub record Readable (ws : List ℕ) : Type 0 where
  pub grammar : Grammar
  pub shown : HasProgram grammar ws

-- ---- what the code reads

-- the rows of words of the places: how many there are, and where they begin
pub record RowsAt (ws : List ℕ) (count begin : ℕ) : Type 0 where
  pub productions : count ≡ get_or ws 6 0
  pub address : begin ≡ get_or ws 2 0 + 8 * get_or ws 6 0

-- the address of the word of place p
abbrev pub word_address : List ℕ → ℕ → ℕ
word_address ws p = get_or ws 2 0 + 8 * get_or ws 6 0 + symbols_limit * place_production p + place_passed p

-- the word of place p; 0 where it has no production, or more symbols passed than any right side has
unfoldable pub wait_at : List ℕ → ℕ → ℕ
wait_at ws p = cond (ltb (place_production p) (get_or ws 6 0)) (cond (ltb (place_passed p) symbols_limit) (get_or ws (word_address ws p) 0) 0) 0

-- a place with word v waits, and its left side is the symbol with byte x
abbrev pub word_on : ℕ → ℕ → Bool
word_on v x = not (eqb v 0) && eqb (nonterminal_base + wait_left v) x

-- the registers of a place with word v, the lowest first
abbrev pub cells_in : ℕ → List Cell
cells_in v = stretches (wait_passed v) (wait_marked v) (wait_inherited v)

module _ (ws : List ℕ) (p : ℕ) where
  pub wait_unlisted : get_or ws 6 0 ≤ place_production p → wait_at ws p ≡ 0
  unfolding wait_at
  wait_unlisted l = rw (le-ltb (place_production p) (get_or ws 6 0) l) refl

  pub wait_passed_lem : symbols_limit ≤ place_passed p → wait_at ws p ≡ 0
  unfolding wait_at
  wait_passed_lem l = by (ltb (place_production p) (get_or ws 6 0))
    where
      by : (b : Bool) → cond b (cond (ltb (place_passed p) symbols_limit) (get_or ws (word_address ws p) 0) 0) 0 ≡ 0
      by true = rw (le-ltb (place_passed p) symbols_limit l) refl
      by false = refl

  pub wait_word_lem : place_production p < get_or ws 6 0 → place_passed p < symbols_limit → wait_at ws p ≡ get_or ws (word_address ws p) 0
  unfolding wait_at
  wait_word_lem l m = rw (lt-ltb (place_production p) (get_or ws 6 0) l, lt-ltb (place_passed p) symbols_limit m) refl

-- ---- symbols by their bytes

pub symbol_high : (n : ℕ) → symbol_of (nonterminal_base + n) ≡ nonterminal n
symbol_high n = symbol_nonterminal (nonterminal_base + n) (omega arith) ∙ ap nonterminal (omega arith)

-- the symbol with byte x is nonterminal n
named : (n x : ℕ) → is_nonterminal n (symbol_of x) ≡ eqb (nonterminal_base + n) x
named n x = by (ltb x nonterminal_base) refl
  where
    high : (b : Bool) → eqb (nonterminal_base + n) x ≡ b → nonterminal_base ≤ x → eqb (x - nonterminal_base) n ≡ b
    high true e l = eq-eqb (x - nonterminal_base) n (omega (arith, eqb-true (nonterminal_base + n) x e))
    high false e l = ne_eqb (x - nonterminal_base) n (λ d. eqb-false (nonterminal_base + n) x e (omega arith))

    by : (b : Bool) → ltb x nonterminal_base ≡ b → is_nonterminal n (symbol_of x) ≡ eqb (nonterminal_base + n) x
    by true e = rw (symbol_terminal x (ltb-true x nonterminal_base e)) (sym (ne_eqb (nonterminal_base + n) x (λ d. omega (arith, ltb-true x nonterminal_base e))))
    by false e = rw (symbol_nonterminal x (ltb-false x nonterminal_base e)) (high (eqb (nonterminal_base + n) x) refl (ltb-false x nonterminal_base e))

-- ---- of a grammar

module _ {g : Grammar} {ws : List ℕ} (s : HasProgram g ws) where
  pub productions_are : get_or ws 6 0 ≡ length g.productions
  productions_are = (segment_words_lem s.begins).productions

  -- the words that are read stand in the program
  pub header_inside : 9 ≤ length ws
  header_inside = stands_within (segment_at s.begins)

  module _ (p : ℕ) where
    address_is : word_address ws p ≡ wait_address g (place_production p) + place_passed p
    address_is = omega (arith, (segment_words_lem s.begins).records, productions_are)

    pub word_inside : place_production p < get_or ws 6 0 → place_passed p < symbols_limit → word_address ws p < length ws
    word_inside l m =
        let k : place_production p < length g.productions = omega (arith, productions_are) in
        let f = well_formed_at g s.formed (place_production p) k in
        omega (arith, address_is, stands_within (wait_row_at s.begins s.formed (place_production p) k), wait_row_length g (production_at g (place_production p)) f.short)

    module _ (l : place_production p < length g.productions) where
      pub waits_at : place_passed p < length (production_at g (place_production p)).right → Waits g (production_at g (place_production p)) (place_passed p) (wait_at ws p)
      waits_at k =
          let f = well_formed_at g s.formed (place_production p) l in
          subst (Waits g (production_at g (place_production p)) (place_passed p)) (sym (wait_word_lem ws p (omega (arith, productions_are)) (omega (arith, f.short)) ∙ ap (λ a. get_or ws a 0) address_is)) (place_waits_lem s.begins s.formed (place_production p) l (place_passed p) k)

      rests_at : length (production_at g (place_production p)).right ≤ place_passed p → place_passed p < symbols_limit → wait_at ws p ≡ 0
      rests_at k m = wait_word_lem ws p (omega (arith, productions_are)) m ∙ (ap (λ a. get_or ws a 0) address_is ∙ place_rests s.begins s.formed (place_production p) l (place_passed p) k m)

      -- a place that waits has a word, one that does not has none
      pub on_listed : (x : ℕ) → word_on (wait_at ws p) x ≡ ltb (place_passed p) (length (production_at g (place_production p)).right) && is_nonterminal (production_at g (place_production p)).left (symbol_of x)
      on_listed x = by (ltb (place_passed p) (length (production_at g (place_production p)).right)) refl
        where
          by : (b : Bool) → ltb (place_passed p) (length (production_at g (place_production p)).right) ≡ b → word_on (wait_at ws p) x ≡ b && is_nonterminal (production_at g (place_production p)).left (symbol_of x)
          by true e =
              let v = waits_at (ltb-true (place_passed p) (length (production_at g (place_production p)).right) e) in
              rw (ne_eqb (wait_at ws p) 0 (λ z. omega (arith, v.some)), v.left) (sym (named (production_at g (place_production p)).left x))
          by false e = rw (none (ltb-false (place_passed p) (length (production_at g (place_production p)).right) e) (ltb (place_passed p) symbols_limit) refl) refl
            where
              none : length (production_at g (place_production p)).right ≤ place_passed p → (b : Bool) → ltb (place_passed p) symbols_limit ≡ b → wait_at ws p ≡ 0
              none k true d = rests_at k (ltb-true (place_passed p) symbols_limit d)
              none k false d = wait_passed_lem ws p (ltb-false (place_passed p) symbols_limit d)

    pub on_word : (x : ℕ) → word_on (wait_at ws p) x ≡ place_on g (symbol_of x) p
    on_word x = by (ltb (place_production p) (length g.productions)) refl
      where
        by : (b : Bool) → ltb (place_production p) (length g.productions) ≡ b → word_on (wait_at ws p) x ≡ b && (ltb (place_passed p) (length (production_at g (place_production p)).right) && is_nonterminal (production_at g (place_production p)).left (symbol_of x))
        by true e = on_listed (ltb-true (place_production p) (length g.productions) e) x
        by false e = rw (wait_unlisted ws p (omega (arith, productions_are, ltb-false (place_production p) (length g.productions) e))) refl

    -- a place that stands on another: its symbol and its registers
    module _ (x : ℕ) (on : word_on (wait_at ws p) x ≡ true) where
      tests : T (ltb (place_production p) (length g.productions)) × T (ltb (place_passed p) (length (production_at g (place_production p)).right) && is_nonterminal (production_at g (place_production p)).left (symbol_of x))
      tests = both (ltb (place_production p) (length g.productions)) (ltb (place_passed p) (length (production_at g (place_production p)).right) && is_nonterminal (production_at g (place_production p)).left (symbol_of x)) (true→T (place_on g (symbol_of x) p) (sym (on_word x) ∙ on))

      word_of : Waits g (production_at g (place_production p)) (place_passed p) (wait_at ws p)
      word_of =
          let k = (both (ltb (place_passed p) (length (production_at g (place_production p)).right)) (is_nonterminal (production_at g (place_production p)).left (symbol_of x)) tests.1).0 in
          waits_at (ltb→lt (place_production p) (length g.productions) tests.0) (ltb→lt (place_passed p) (length (production_at g (place_production p)).right) k)

      pub symbol_awaited : symbol_of (wait_symbol (wait_at ws p)) ≡ awaited g p
      symbol_awaited = word_of.symbol

      pub cells_of_lem : cells_in (wait_at ws p) ≡ cells_of g p
      cells_of_lem = ap₂ (λ n r. replicate n valued ++ r) word_of.passed (ap₂ (λ m n. replicate m marked ++ replicate n valued) word_of.marked word_of.inherited)

  -- the start symbol's
  pub start_count : get_or ws 4 0 ≡ syn g (nonterminal g.start)
  start_count = (segment_words_lem s.begins).registers

  pub start_small : get_or ws 4 0 ≤ registers_limit
  start_small = omega (arith, start_count, att_most g s.formed (nonterminal g.start))

  -- a word that has the start symbol alone
  pub start_symbol : symbol_of (wait_symbol ((nonterminal_base + head_operand (get_or ws 0 0)) * 2097152)) ≡ nonterminal g.start
  start_symbol =
      let e : head_operand (get_or ws 0 0) ≡ g.start = omega (arith, (segment_words_lem s.begins).expected) in
      let f : g.start < nonterminals_limit = omega (arith, s.formed.start, s.formed.nonterminals.1) in
      let d : wait_symbol ((nonterminal_base + head_operand (get_or ws 0 0)) * 2097152) ≡ nonterminal_base + head_operand (get_or ws 0 0) = omega arith in
      ap symbol_of d ∙ (symbol_high (head_operand (get_or ws 0 0)) ∙ ap nonterminal e)
