-- The word that says what a place waits at, taken apart.
use Rattle.std.specs.Prelude.{ℕ, zero, suc, ◌+◌, ◌-◌, ◌*◌, ◌≤◌, ◌<◌, ◌≡◌, List, [], ◌∷◌, ◌++◌, map, length, get_or, take, replicate}
use Rattle.std.proofs.Common.{arith, sym, ap, ◌∙◌, subst, length-take, get_or-append-add}
use Rattle.std.proofs.lemmas.List.{get_or-replicate}
use Rattle.std.proofs.Math.ListN.{get_or-append}
use Rattle.meaning.specs.Limits.{attributes_limit, symbols_limit}
use Rattle.meaning.specs.Base.{total}
use Rattle.meaning.specs.Grammar.{Symbol, terminal, nonterminal, Production, Grammar, inh, syn, marked_for, symbol_at, production_at}
use Rattle.meaning.specs.Rules.{Known, WellFormedProduction, WellFormed}
use Rattle.meaning.specs.Layout.{symbol_byte}
use Rattle.meaning.specs.Table.{symbol_of}
use Rattle.meaning.specs.Program.{wait_word, waits_from, wait_row}
use Rattle.theory_base.specs.Members.{get_d_in}
use Rattle.theory_base.specs.WellFormed.{well_formed_at}
use Rattle.theory_table.specs.Numbers.{known_back}
use Rattle.theory_program.specs.Parts.{wait_left, wait_passed, wait_marked, wait_inherited, wait_symbol}
use Rattle.theory_program.specs.Addresses.{Begins, wait_address, waits_from_length, wait_at_lem}
use Rattle.theory_program.specs.Proper.{att_most, added_most, total_most}

-- ---- a number of five parts and a last bit

module _ (l n m i b : ℕ) where
  abbrev joined : ℕ
  joined = l + 64 * n + 8192 * m + 131072 * i + 2097152 * b + 536870912

  first_part : l < 64 → wait_left joined ≡ l
  first_part h = omega arith

  second_part : l < 64 → n < 128 → wait_passed joined ≡ n
  second_part h j = omega arith

  third_part : l < 64 → n < 128 → m < 16 → wait_marked joined ≡ m
  third_part h j k = omega arith

  fourth_part : l < 64 → n < 128 → m < 16 → i < 16 → wait_inherited joined ≡ i
  fourth_part h j k o = omega arith

  fifth_part : l < 64 → n < 128 → m < 16 → i < 16 → b < 256 → wait_symbol joined ≡ b
  fifth_part h j k o q = omega arith

-- ---- the words of a production

-- how many registers the first k symbols have
abbrev pub registers_passed : Grammar → Production → ℕ → ℕ
registers_passed g p k = total (map (syn g) (take k p.right))

waits_word : (g : Grammar) (l n : ℕ) (xs : List Symbol) (k : ℕ) → k < length xs → get_or (waits_from g l n xs) k 0 ≡ wait_word g l (n + total (map (syn g) (take k xs))) (get_or xs k (terminal 0))
waits_word g l n [] k h = absurd (omega arith)
waits_word g l n (x ∷ xs) zero h = ap (λ r. wait_word g l r x) (omega arith)
waits_word g l n (x ∷ xs) (suc k) h = waits_word g l (n + syn g x) xs k (omega arith) ∙ ap (λ r. wait_word g l r (get_or xs k (terminal 0))) (omega arith)

pub row_word : (g : Grammar) (p : Production) (k : ℕ) → k < length p.right → get_or (wait_row g p) k 0 ≡ wait_word g p.left (registers_passed g p k) (symbol_at p (suc k))
row_word g p k h =
    let ws = waits_from g p.left 0 p.right in
    get_or-append ws (replicate (symbols_limit - length p.right) 0) 0 k (omega (arith, waits_from_length g p.left 0 p.right))
    ∙ (waits_word g p.left 0 p.right k h ∙ ap (λ r. wait_word g p.left r (symbol_at p (suc k))) (omega arith))

pub row_rest : (g : Grammar) (p : Production) (k : ℕ) → length p.right ≤ k → k < symbols_limit → get_or (wait_row g p) k 0 ≡ 0
row_rest g p k h m =
    let ws = waits_from g p.left 0 p.right in
    let rest : List ℕ = replicate (symbols_limit - length p.right) 0 in
    let i = k - length p.right in
    ap (λ j. get_or (ws ++ rest) j 0) (omega (arith, waits_from_length g p.left 0 p.right))
    ∙ (get_or-append-add ws rest i 0 ∙ get_or-replicate {A = ℕ} (symbols_limit - length p.right) i 0 0 (omega arith))

-- ---- of a well-formed grammar

module _ (g : Grammar) (w : WellFormed g) where
  pub byte_most : (x : Symbol) → Known g x → symbol_byte x ≤ 175
  byte_most (terminal t) k = omega (arith, w.terminals.1)
  byte_most (nonterminal n) k = omega (arith, w.nonterminals.1)

  pub registers_most : (p : Production) → length p.right ≤ symbols_limit → (k : ℕ) → registers_passed g p k ≤ 96
  registers_most p s k = omega (arith, total_most (syn g) attributes_limit (λ x. omega (arith, att_most g w x)) (take k p.right), length-take k p.right)

-- v is the word of a place with k symbols of p passed that has a symbol to wait at
pub record Waits (g : Grammar) (p : Production) (k v : ℕ) : Type 0 where
  pub some : 0 < v
  pub left : wait_left v ≡ p.left
  pub passed : wait_passed v ≡ registers_passed g p k
  pub marked : wait_marked v ≡ marked_for g (symbol_at p (suc k))
  pub inherited : wait_inherited v ≡ inh g (symbol_at p (suc k))
  pub byte : wait_symbol v ≡ symbol_byte (symbol_at p (suc k))
  pub symbol : symbol_of (wait_symbol v) ≡ symbol_at p (suc k)

word_waits : (g : Grammar) → WellFormed g → (p : Production) → WellFormedProduction g p → (k : ℕ) → k < length p.right → Waits g p k (wait_word g p.left (registers_passed g p k) (symbol_at p (suc k)))
word_waits g w p f k h =
    let x = symbol_at p (suc k) in
    let known = f.symbols x (get_d_in p.right k (terminal 0) h) in
    let n = registers_passed g p k in
    let a : p.left < 64 = omega (arith, f.left, w.nonterminals.1) in
    let b : n < 128 = omega (arith, registers_most g w p f.short k) in
    let c : marked_for g x < 16 = omega (arith, added_most g w x) in
    let d : inh g x < 16 = omega (arith, att_most g w x) in
    let e : symbol_byte x < 256 = omega (arith, byte_most g w x known) in
    let byte = fifth_part p.left n (marked_for g x) (inh g x) (symbol_byte x) a b c d e in
    record {
      some = omega arith;
      left = first_part p.left n (marked_for g x) (inh g x) (symbol_byte x) a;
      passed = second_part p.left n (marked_for g x) (inh g x) (symbol_byte x) a b;
      marked = third_part p.left n (marked_for g x) (inh g x) (symbol_byte x) a b c;
      inherited = fourth_part p.left n (marked_for g x) (inh g x) (symbol_byte x) a b c d;
      byte = byte;
      symbol = ap symbol_of byte ∙ known_back g w x known;
    }

-- ---- in a list that begins with the program

module _ {g : Grammar} {ws : List ℕ} (b : Begins g ws) (w : WellFormed g) (p : ℕ) (l : p < length g.productions) (k : ℕ) where
  pub place_waits_lem : k < length (production_at g p).right → Waits g (production_at g p) k (get_or ws (wait_address g p + k) 0)
  place_waits_lem h =
      let f = well_formed_at g w p l in
      subst (Waits g (production_at g p) k) (sym (wait_at_lem b w p l k (omega (arith, f.short)) ∙ row_word g (production_at g p) k h)) (word_waits g w (production_at g p) f k h)

  pub place_rests : length (production_at g p).right ≤ k → k < symbols_limit → get_or ws (wait_address g p + k) 0 ≡ 0
  place_rests h m = wait_at_lem b w p l k m ∙ row_rest g (production_at g p) k h m
