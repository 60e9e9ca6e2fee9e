-- Loops that write counts and rows.
use Prim.Native.Nat.{ℕ, zero, suc, ◌+◌, ◌≤◌, ◌<◌}
use mathlib.Core.Path.{◌≡◌, refl, sym, ◌∙◌, ap, subst}
use mathlib.Core.List.{List, [], ◌∷◌, map}
use mathlib.Core.Logic.{⊎_elim}
use mathlib.Core.Bool.{Bool, true, false, ◌||◌}
use native.Mathlib.Omega.{arith}
use native.Mathlib.Nat.{not-suc-le-zero}
use native.Mathlib.Numerals.{add-one}
use lib.Dec.{T}
use lib.ListN.{length, get_or, set, drop, length-set, drop_of_length-le}
use lib.Seq.{get_or-set_same, get_or-set_other, drop-cons}
use Rattle.meaning.specs.Limits.{positions_limit, productions_limit}
use Rattle.meaning.specs.Base.{any}
use Rattle.meaning.specs.Grammar.{Symbol, nonterminal_base}
use Rattle.meaning.specs.Table.{byte, symbol_of}
use Rattle.outline.specs.Images.{row_start, rows_length}
use Rattle.set_words.specs.Views.{members, symbol_bit}
use Rattle.set_words.specs.Reaching.{Gathered}
use Rattle.table_rows.specs.RowWritten.{symbol_byte, Copied}
use Rattle.table_fields.proofs.Cases.{lt_or_le}

-- the counts of positions below k are written, where f gives the count of a symbol's byte
pub record Placing (f : ℕ → ℕ) (b places : List ℕ) (k : ℕ) : Type 0 where
  pub each : (j : ℕ) → j < k → get_or places j 0 ≡ f (symbol_byte b j)
  pub kept : length places ≡ positions_limit

pub placing_start : (f : ℕ → ℕ) (b places : List ℕ) (x : ℕ) → length places ≡ positions_limit → x ≡ f (nonterminal_base + byte b 0) → Placing f b (set places 0 x) 1
placing_start f b places x l e = record { each = first; kept = length-set places 0 x ∙ l }
  where
    first : (j : ℕ) → j < 1 → get_or (set places 0 x) j 0 ≡ f (symbol_byte b j)
    first zero h = get_or-set_same places 0 x 0 (omega (arith, l)) ∙ e
    first (suc j) h = absurd (omega arith)

pub symbol_byte_lem : (b : List ℕ) (k : ℕ) → 1 ≤ k → byte b (k + 1) ≡ symbol_byte b k
symbol_byte_lem b zero h = absurd (not-suc-le-zero h)
symbol_byte_lem b (suc k) h = ap (byte b) {x = suc k + 1} {y = k + 2} (omega arith)

module _ (f : ℕ → ℕ) (b places : List ℕ) (k : ℕ) (p : Placing f b places k) (one : 1 ≤ k) where
  -- position k is written in `now`, and the positions before it stay
  next_each : (now : List ℕ) → get_or now k 0 ≡ f (byte b (k + 1)) → ((j : ℕ) → j < k → get_or now j 0 ≡ get_or places j 0) → (j : ℕ) → j < k + 1 → get_or now j 0 ≡ f (symbol_byte b j)
  next_each now e same j h =
      ⊎_elim
      (λ l. same j l ∙ p.each j l)
      (λ l.
      let q : j ≡ k = omega arith in
      ap (λ (i : ℕ). get_or now i 0) q ∙ e ∙ ap f (symbol_byte_lem b k one ∙ ap (symbol_byte b) (sym q)))
      (lt_or_le j k)

  pub placing_more : (x : ℕ) → k < positions_limit → x ≡ f (byte b (k + 1)) → Placing f b (set places k x) (k + 1)
  placing_more x room e =
      record {
        each = next_each (set places k x) (get_or-set_same places k x 0 (omega (arith, p.kept)) ∙ e) (λ j l. get_or-set_other places k j x 0 (λ q. omega arith));
        kept = length-set places k x ∙ p.kept;
      }

pub copying_start : (rows : List ℕ) (p : ℕ) (b : List ℕ) → length rows ≡ rows_length → Copied rows p b rows 0
copying_start rows p b l = record { before = λ i h. refl; row = λ j h. absurd (not-suc-le-zero h); kept = l }

pub copying_more :
    (rows₀ : List ℕ) (p : ℕ) (b rows : List ℕ) (k : ℕ) → Copied rows₀ p b rows k → row_start p + k < rows_length
    → Copied rows₀ p b (set rows (row_start p + k) (byte b k)) (k + 1)
copying_more rows₀ p b rows k c room =
    record {
      before = λ i h. get_or-set_other rows (row_start p + k) i (byte b k) 0 (λ q. omega arith) ∙ c.before i h;
      row = row;
      kept = length-set rows (row_start p + k) (byte b k) ∙ c.kept;
    }
  where
    row : (j : ℕ) → j < k + 1 → get_or (set rows (row_start p + k) (byte b k)) (row_start p + j) 0 ≡ byte b j
    row j h =
        ⊎_elim
        (λ l. get_or-set_other rows (row_start p + k) (row_start p + j) (byte b k) 0 (λ q. omega arith) ∙ c.row j l)
        (λ l.
        let q : j ≡ k = omega arith in
        ap (λ (i : ℕ). get_or (set rows (row_start p + k) (byte b k)) (row_start p + i) 0) q
        ∙ get_or-set_same rows (row_start p + k) (byte b k) 0 (omega (arith, c.kept)) ∙ ap (byte b) (sym q))
        (lt_or_le j k)

-- the same where the row's place is another number's name
pub copying_at :
    (rows₀ : List ℕ) (p : ℕ) (b rows : List ℕ) (k start : ℕ) → start ≡ row_start p → Copied rows₀ p b rows k → row_start p + k < rows_length
    → Copied rows₀ p b (set rows (start + k) (byte b k)) (k + 1)
copying_at rows₀ p b rows k start e c room = rw e (copying_more rows₀ p b rows k c room)

-- its first two bytes, which are no symbols
pub copying_two : (rows : List ℕ) (p : ℕ) (b : List ℕ) → length rows ≡ rows_length → p < productions_limit → Copied rows p b (set (set rows (row_start p) (byte b 0)) (row_start p + 1) (byte b 1)) 2
copying_two rows p b l h =
    let e : row_start p + 0 ≡ row_start p = omega arith in
    copying_more rows p b (set rows (row_start p) (byte b 0)) 1
    (subst (λ (i : ℕ). Copied rows p b (set rows i (byte b 0)) 1) e (copying_more rows p b rows 0 (copying_start rows p b l) (omega arith)))
    (omega arith)

-- the symbols of a body from one on
pub symbols_from : (b : List ℕ) (k : ℕ) → k < length b → map symbol_of (drop k b) ≡ symbol_of (byte b k) ∷ map symbol_of (drop (k + 1) b)
symbols_from b k h = ap (map symbol_of) (drop-cons b k 0 h ∙ ap (λ (n : ℕ). byte b k ∷ drop n b) (sym (add-one k)))

pub symbols_none : (b : List ℕ) (k : ℕ) → length b ≤ k → map symbol_of (drop k b) ≡ []
symbols_none b k h = ap (map symbol_of) (drop_of_length-le b {i = k} h)

-- ---- the word of the symbols

absorbed : (a b c : Bool) → (T b → T a) → (a || (b || c)) ≡ (a || c)
absorbed true b c h = refl
absorbed false true c h = absurd (h tt)
absorbed false false c h = refl

-- one that is in already
pub gathered_again : (xs : List Symbol) (out : ℕ) (s : Symbol) (ys rest : List Symbol) → Gathered symbol_bit xs out ys → ys ≡ s ∷ rest → ((n : ℕ) → T (symbol_bit n s) → T (members out n)) → Gathered symbol_bit xs out rest
gathered_again xs out s ys rest g e in-it =
    record { is = λ n. g.is n ∙ ap (λ (l : List Symbol). members out n || any (symbol_bit n) l) e ∙ absorbed (members out n) (symbol_bit n s) (any (symbol_bit n) rest) (in-it n) }
