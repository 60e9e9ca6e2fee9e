-- The words of the right sides, kept while another production is read.
use Prim.Native.Nat.{ℕ, ◌+◌, ◌≤◌, ◌<◌}
use mathlib.Core.Path.{◌≡◌, sym, ◌∙◌, ap}
use mathlib.Core.List.{List, map}
use native.Mathlib.Omega.{arith}
use native.Mathlib.Decide.{dec_lt}
use lib.ListN.{length, get_or, set, drop, length-map, length-drop, get_or-map}
use lib.Seq.{get_or-drop}
use Rattle.meaning.specs.Limits.{productions_limit, symbols_limit}
use Rattle.meaning.specs.Base.{any}
use Rattle.meaning.specs.Table.{byte, symbol_of}
use Rattle.outline.specs.Images.{row_start, size_at, right_at, right_length, right_at_lem, right_is, rows_length}
use Rattle.set_words.specs.Views.{symbol_bit, right_by}
use Rattle.set_words.specs.Growth.{SetsTo, sets_none, sets_next}
use Rattle.table_fields.proofs.Rest.{body_length, body_byte}
use Rattle.table_rows.specs.RowWritten.{Copied, RightWord}
use Rattle.table_production.specs.Productions.{width_in, body_in, ProductionKnown}
use Rattle.table_production.specs.Rights.{RightsTo}

pub rights_none : (rows words : List ℕ) → length words ≡ productions_limit → RightsTo rows 0 words
rights_none rows words l = record { short = λ p h. absurd (omega arith); sets = sets_none (right_by rows) words l }

module _ (rows₀ rows : List ℕ) (p : ℕ) (part : List ℕ) (few : p < productions_limit) (long : length rows₀ ≡ rows_length) (short : length part ≤ 14) (width : 2 + byte part 1 ≡ length part) (copied : Copied rows₀ p part rows (length part)) where
  -- the row before
  module _ (q : ℕ) (lt : q < p) (small : size_at rows₀ q ≤ symbols_limit) where
    size_kept : size_at rows q ≡ size_at rows₀ q
    size_kept = copied.before (row_start q + 1) (omega arith)

    right_kept : right_at rows q ≡ right_at rows₀ q
    right_kept =
        right_is rows productions_limit (omega (arith, copied.kept)) q (omega arith) (omega (arith, size_kept)) (right_at rows₀ q)
        (size_kept ∙ sym long_right)
        (λ k l. ap symbol_of (copied.before (row_start q + 2 + k) (omega (arith, long_right))) ∙ sym (right_at_lem rows₀ productions_limit (omega arith) q (omega arith) small k (omega (arith, long_right))))
      where
        long_right : length (right_at rows₀ q) ≡ size_at rows₀ q
        long_right = right_length rows₀ productions_limit (omega arith) q (omega arith) small

  -- and its own
  own_size_lem : size_at rows p ≡ byte part 1
  own_size_lem = copied.row 1 (omega arith)

  long_own : length (map symbol_of (drop 2 part)) ≡ byte part 1
  long_own = length-map (drop 2 part) symbol_of ∙ length-drop 2 part ∙ omega arith

  own_right : right_at rows p ≡ map symbol_of (drop 2 part)
  own_right =
      right_is rows productions_limit (omega (arith, copied.kept)) p few (omega (arith, own_size_lem)) (map symbol_of (drop 2 part)) (own_size_lem ∙ sym long_own)
      (λ k l.
      let i : row_start p + 2 + k ≡ row_start p + (2 + k) = omega arith in
      ap symbol_of (ap (λ (x : ℕ). get_or rows x 0) i ∙ copied.row (2 + k) (omega (arith, long_own)))
      ∙ sym (get_or-map symbol_of (drop 2 part) k 0 ∙ ap symbol_of (get_or-drop 2 part k 0)))

  rights_more : (words : List ℕ) (word : ℕ) → RightWord part word → RightsTo rows₀ p words → RightsTo rows (p + 1) (set words p word)
  rights_more words word is r = record { short = λ q l. small q l (dec_lt q p); sets = sets_next (right_by rows) p word words few kept (λ n. is n ∙ sym (ap (any (symbol_bit n)) own_right)) }
    where
      small : (q : ℕ) → q < p + 1 → Dec (q < p) → size_at rows q ≤ symbols_limit
      small q l (yes h) = omega (arith, size_kept q h (r.short q h), r.short q h)
      small q l (no h) = let e : q ≡ p = omega arith in omega (arith, ap (size_at rows) e, own_size_lem)

      kept : SetsTo (right_by rows) p words
      kept = record { size = r.sets.size; is = λ q l n. r.sets.is q l n ∙ sym (ap (any (symbol_bit n)) (right_kept q l (r.short q l))) }

-- of a production that is known, by the part of the table that is its body
module _ (t : List ℕ) (at p terminals nonterminals : ℕ) (known : ProductionKnown t at p terminals nonterminals) (part : List ℕ) (is-part : part ≡ body_in t at) where
  pub part_long : length part ≡ 2 + width_in t at
  part_long = ap length is-part ∙ body_length t at (2 + width_in t at) (omega (arith, known.long))

  part_width : byte part 1 ≡ width_in t at
  part_width = ap (λ (x : List ℕ). byte x 1) is-part ∙ body_byte t at (2 + width_in t at) 1 (omega arith) ∙ ap (byte t) {x = at + 3 + 1} {y = at + 4} (omega arith)

  pub rights_read :
      (rows₀ rows : List ℕ) → length rows₀ ≡ rows_length → Copied rows₀ p part rows (length part) → (words : List ℕ) (word : ℕ) → RightWord part word
      → RightsTo rows₀ p words → RightsTo rows (p + 1) (set words p word)
  rights_read rows₀ rows long copied = rights_more rows₀ rows p part known.few long (omega (arith, part_long, known.short)) (omega (arith, part_long, part_width)) copied
