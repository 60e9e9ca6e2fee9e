-- The image of a table's productions: 16 bytes for each. Byte 0 is the left nonterminal, byte 1 the length of the right side,
-- from byte 2 on its symbols as the table has them: a terminal is its number, a nonterminal 128 plus its number.
use Rattle.std.specs.Prelude.{ℕ, suc, ◌+◌, ◌-◌, ◌*◌, ◌/◌, ◌≤◌, ◌<◌, ◌≡◌, List, [], ◌∷◌, map, T, length, take, drop, get_or}
use Rattle.std.proofs.Common.{add-one, arith, sym, ap₂, ◌∙◌, ltb→lt, length-take, length-drop, drop_of_length-le, drop-cons, get_or-take, ext_get_or}
use Rattle.std.proofs.Math.Decide.{dec_lt}
use Rattle.std.proofs.Math.Path.{ap}
use Rattle.std.proofs.Math.ListN.{length-map, get_or-map}
use Rattle.std.proofs.Math.Seq.{get_or-drop}
use Rattle.meaning.specs.Limits.{nonterminals_limit, productions_limit, symbols_limit}
use Rattle.meaning.specs.Grammar.{Symbol, terminal, Grammar, symbol_at, production_at, nonterminal_count, nonterminal_base}
use Rattle.meaning.specs.Table.{byte, symbol_of}
use Rattle.meaning.specs.Rules.{WellFormed}
pub use Rattle.theory_table.specs.Numbers.{symbol_terminal, symbol_nonterminal}
use Rattle.theory_sets.specs.Tests.{all_at}
use Rattle.theory_sets.specs.Productions.{known, symbols, lefts}

-- the bytes of symbols are below: 128 plus a nonterminal's number is the highest
abbrev pub symbol_bytes : ℕ
symbol_bytes = nonterminal_base + nonterminals_limit

-- where row p begins; row p + 1 begins where it ends
abbrev pub row_start : ℕ → ℕ
row_start p = p * 16

-- the image of as many productions as a table may have
abbrev pub rows_length : ℕ
rows_length = row_start productions_limit

abbrev pub row_count : List ℕ → ℕ
row_count rows = length rows / 16

-- row p lies in the image whole
abbrev pub HasRow : List ℕ → ℕ → Type 0
HasRow rows p = row_start (p + 1) ≤ length rows

abbrev pub row_at : List ℕ → ℕ → List ℕ
row_at rows p = take 16 (drop (row_start p) rows)

abbrev pub left_at : List ℕ → ℕ → ℕ
left_at rows p = get_or rows (p * 16) 0

abbrev pub size_at : List ℕ → ℕ → ℕ
size_at rows p = get_or rows (p * 16 + 1) 0

abbrev pub byte_at : List ℕ → ℕ → ℕ → ℕ
byte_at rows p i = get_or rows (p * 16 + 2 + i) 0

unfoldable pub right_at : List ℕ → ℕ → List Symbol
right_at rows p = map symbol_of (take (size_at rows p) (drop (p * 16 + 2) rows))

-- of a row that is lent alone
abbrev pub left_in : List ℕ → ℕ
left_in row = byte row 0

abbrev pub size_in_value : List ℕ → ℕ
size_in_value row = byte row 1

abbrev pub symbol_in : List ℕ → ℕ → ℕ
symbol_in row k = byte row (k + 2)

-- the numbers of an image that the code relies on
pub record Image (rows : List ℕ) (count : ℕ) : Type 0 where
  pub few : count ≤ productions_limit
  pub room : count * 16 ≤ length rows
  pub lefts : (p : ℕ) → p < count → left_at rows p < nonterminals_limit
  pub sizes : (p : ℕ) → p < count → size_at rows p ≤ symbols_limit
  pub symbols : (p i : ℕ) → p < count → i < size_at rows p → byte_at rows p i < symbol_bytes

-- the rows are those of the productions of g
pub record ImageOf (rows : List ℕ) (count : ℕ) (g : Grammar) : Type 0 where
  pub sound : WellFormed g
  pub narrow : nonterminal_count g ≤ nonterminals_limit
  pub counted : length g.productions ≡ count
  pub room : count * 16 ≤ length rows
  pub sizes : (p : ℕ) → p < count → size_at rows p ≤ symbols_limit
  pub left : (p : ℕ) → p < count → left_at rows p ≡ (production_at g p).left
  pub right : (p : ℕ) → p < count → right_at rows p ≡ (production_at g p).right

-- what is to be shown where the code reads the row of production p, and symbol i of its right side
pub row_inside : {rows : List ℕ} {count : ℕ} → Image rows count → (p : ℕ) → p < count → HasRow rows p
row_inside image p lt = omega (arith, image.room)

pub symbol_inside : {rows : List ℕ} {count : ℕ} → Image rows count → (p i : ℕ) → p < count → i < size_at rows p → HasRow rows p × (i < 14)
symbol_inside image p i lt h = (row_inside image p lt, omega (arith, image.sizes p lt))

module _ (rows : List ℕ) (count : ℕ) (room : count * 16 ≤ length rows) (p : ℕ) (lt : p < count) (short : size_at rows p ≤ symbols_limit) where
  part_length : length (take (size_at rows p) (drop (p * 16 + 2) rows)) ≡ size_at rows p
  part_length = simp (length-take, length-drop) (omega arith)

  pub right_length : length (right_at rows p) ≡ size_at rows p
  unfolding right_at
  right_length = length-map (take (size_at rows p) (drop (p * 16 + 2) rows)) symbol_of ∙ part_length

  pub right_at_lem : (i : ℕ) → i < size_at rows p → get_or (right_at rows p) i (symbol_of 0) ≡ symbol_of (byte_at rows p i)
  unfolding right_at
  right_at_lem i h = get_or-map symbol_of (take (size_at rows p) (drop (p * 16 + 2) rows)) i 0 ∙ ap symbol_of (get_or-take (size_at rows p) (drop (p * 16 + 2) rows) i 0 h ∙ get_or-drop (p * 16 + 2) rows i 0)

  -- it is the right side whose length and symbols its bytes are
  pub right_is : (xs : List Symbol) → size_at rows p ≡ length xs → ((k : ℕ) → k < length xs → symbol_of (byte_at rows p k) ≡ get_or xs k (terminal 0)) → right_at rows p ≡ xs
  right_is xs e f = ext_get_or (terminal 0) (right_at rows p) xs (right_length ∙ e) (λ i m. right_at_lem i (omega (arith, right_length)) ∙ f i (omega (arith, right_length, e)))

-- the length and the symbols of a production by its row
module _ {rows : List ℕ} {count : ℕ} {g : Grammar} (r : ImageOf rows count g) (p : ℕ) (lt : p < count) where
  pub size_is : size_at rows p ≡ length (production_at g p).right
  size_is = sym (right_length rows count r.room p lt (r.sizes p lt)) ∙ ap length (r.right p lt)

  pub symbol_is : (k : ℕ) → k < length (production_at g p).right → symbol_of (byte_at rows p k) ≡ symbol_at (production_at g p) (suc k)
  symbol_is k l = sym (right_at_lem rows count r.room p lt (r.sizes p lt) k (omega (arith, size_is))) ∙ ap (λ xs. get_or xs k (terminal 0)) (r.right p lt)

-- a walk along the right side of production p
module _ {rows : List ℕ} {count : ℕ} (image : Image rows count) (p : ℕ) (lt : p < count) where
  pub right_cons : (i : ℕ) → i < size_at rows p → drop i (right_at rows p) ≡ symbol_of (byte_at rows p i) ∷ drop (i + 1) (right_at rows p)
  right_cons i h =
      let le : i < length (right_at rows p) = rw (right_length rows count image.room p lt (image.sizes p lt)) h in
      drop-cons (right_at rows p) i (symbol_of 0) le
      ∙ ap₂ (λ (x : Symbol) (y : ℕ). x ∷ drop y (right_at rows p)) (right_at_lem rows count image.room p lt (image.sizes p lt) i h) (sym (add-one i))

  -- the symbol before place i
  pub right_back : (i : ℕ) → 0 < i → i ≤ size_at rows p → drop (i - 1) (right_at rows p) ≡ symbol_of (byte_at rows p (i - 1)) ∷ drop i (right_at rows p)
  right_back i more upto =
      let e : i - 1 + 1 ≡ i = omega arith in
      right_cons (i - 1) (omega arith) ∙ ap (λ (m : ℕ). symbol_of (byte_at rows p (i - 1)) ∷ drop m (right_at rows p)) e

  pub right_end : (i : ℕ) → size_at rows p ≤ i → drop i (right_at rows p) ≡ []
  right_end i h = drop_of_length-le (right_at rows p) {i = i} (rw (right_length rows count image.room p lt (image.sizes p lt)) h)

-- the image of a grammar's productions has its numbers in their limits
pub image_of : {rows : List ℕ} {count : ℕ} {g : Grammar} → ImageOf rows count g → Image rows count
image_of {rows} {count} {g} r =
    record {
      few = let a = r.sound.productions.1 in let e = r.counted in omega arith;
      room = r.room;
      lefts = λ p lt. let a = lefts r.sound p (rw r.counted lt) in let e = r.left p lt in let n = r.narrow in omega arith;
      sizes = r.sizes;
      symbols = λ p i lt h. small (byte_at rows p i) (seen p i lt h);
    }
  where
    seen : (p i : ℕ) → p < count → i < size_at rows p → T (known g (symbol_of (byte_at rows p i)))
    seen p i lt h =
        rw (right_at_lem rows count r.room p lt (r.sizes p lt) i h) at
        (all_at (known g) (right_at rows p) i (symbol_of 0) (rw (right_length rows count r.room p lt (r.sizes p lt)) h) (rw (r.right p lt) (symbols r.sound p (rw r.counted lt))))

    small : (n : ℕ) → T (known g (symbol_of n)) → n < symbol_bytes
    small n t = go (dec_lt n nonterminal_base)
      where
        go : Dec (n < nonterminal_base) → n < symbol_bytes
        go (yes l) = omega arith
        go (no l) = let k = ltb→lt (n - nonterminal_base) (nonterminal_count g) (rw (symbol_nonterminal n (omega arith)) at t) in let m = r.narrow in omega arith
