-- The note against 01: every output noted.
use Prim.Native.Nat.{ℕ, zero, suc, ◌+◌, ◌/◌, ◌^◌, ◌≤◌, ◌<◌}
use mathlib.Core.Path.{◌≡◌, refl, sym, ◌∙◌, ap, ap₂}
use mathlib.Core.Bool.{Bool, true, false, ◌&&◌, ◌||◌, not, cond, and-true, and_assoc}
use mathlib.Core.List.{List}
use native.Mathlib.Omega.{arith}
use lib.Dec.{eqb, leb}
use lib.ListN.{get_or, length}
use borrow.Author.Tests.{le-leb, lt-leb}
use Rattle.meaning.specs.Limits.{attributes_limit}
use Rattle.meaning.specs.Base.{all, count_from}
use Rattle.meaning.specs.Grammar.{Symbol, Occurrence, Rule, Condition, Counts}
use Rattle.meaning.specs.Table.{State, Entry, Header, is_input, has_rule, complete, entry_symbol, counts_at, occurrences_at}
use Rattle.table_fields.specs.Demand.{if_equal}
use Rattle.table_rules.specs.Rule.{Small, bit, ones, filled_at, settled, all_count, complete_note}
use Rattle.table_rules.specs.Note.{Placed, Notes, occurrence, is_set}
use Rattle.theory_base.specs.Members.{counted_all, all_mapped}
use Rattle.table_rule_fields.proofs.note.Bits.{bit_suc, bit_first, bit_shifted}
use Rattle.table_rule_fields.proofs.note.Noting.{notes_bit}
use Rattle.table_rules.proofs.ClassDemands.{entry, state, inherited_in_lem, synthesized_in_lem}

-- ---- tests on numbers in a row

module _ (f g : ℕ → Bool) where
  pub count_same : (j n : ℕ) → ((i : ℕ) → j ≤ i → i < j + n → f i ≡ g i) → all f (count_from j n) ≡ all g (count_from j n)
  count_same j zero h = refl
  count_same j (suc n) h = ap₂ ◌&&◌ (h j (omega arith) (omega arith)) (count_same (suc j) n (λ i p q. h i (omega arith) (omega arith)))

count_split : (f : ℕ → Bool) (j m n : ℕ) → all f (count_from j (m + n)) ≡ all f (count_from j m) && all f (count_from (j + m) n)
count_split f j zero n =
    let e : j ≡ j + 0 = omega arith in
    let d : 0 + n ≡ n = omega arith in
    ap₂ (λ (x y : ℕ). all f (count_from x y)) e d
count_split f j (suc m) n =
    let e : suc m + n ≡ suc (m + n) = omega arith in
    let d : suc j + m ≡ j + suc m = omega arith in
    ap (λ (x : ℕ). all f (count_from j x)) e
    ∙ ap (λ x. f j && x) (count_split f (suc j) m n)
    ∙ sym (and_assoc (f j) (all f (count_from (suc j) m)) (all f (count_from (suc j + m) n)))
    ∙ ap (λ (x : ℕ). (f j && all f (count_from (suc j) m)) && all f (count_from x n)) d

count_shift : (f : ℕ → Bool) (d j n : ℕ) → all f (count_from (d + j) n) ≡ all (λ i. f (d + i)) (count_from j n)
count_shift f d j zero = refl
count_shift f d j (suc n) =
    let e : suc (d + j) ≡ d + suc j = omega arith in
    ap (λ (x : ℕ). f (d + j) && all f (count_from x n)) e ∙ ap (λ x. f (d + j) && x) (count_shift f d (suc j) n)

ones_bits : (d n : ℕ) → all (λ i. bit n i) (count_from 0 d) ≡ ones n d
unfolding ones
ones_bits zero n = refl
ones_bits (suc d) n =
    ap₂ ◌&&◌ (bit_first n)
    (count_shift (λ i. bit n i) 1 0 d
    ∙ count_same (λ i. bit n (1 + i)) (λ i. bit (n / 2) i) 0 d (λ i p q. ap (λ (x : ℕ). bit n x) {x = 1 + i} {y = suc i} (omega arith) ∙ bit_suc n i)
    ∙ ones_bits d (n / 2))

-- ---- every output of a production is noted

module _ (h : Header) (cs : List Counts) (os ws : List ℕ) (es : List Entry) (r c o l : ℕ) (xs : List Symbol) (rs : List (Rule Occurrence)) (cds : List (Condition Occurrence))
    (width : ℕ) (inh syn note : List ℕ) (pl : Placed cs ws l xs width inh syn) (small : Small width inh syn) (nt : Notes note rs) where
  abbrev e : Entry
  e = entry h cs os ws es r c o l xs rs cds

  abbrev s : State
  s = state h cs os ws es r c o l xs rs cds

  module _ (k : ℕ) (inside : k ≤ width) where
    abbrev i : ℕ
    i = get_or inh k 0

    abbrev y : ℕ
    y = get_or syn k 0

    abbrev n : ℕ
    n = get_or note k 0

    abbrev test : Bool → ℕ → ℕ → Bool
    test z u a = cond z (leb a u) (not (leb a u)) || is_set rs (occurrence k a)

    bit_is : (a : ℕ) → a < attributes_limit → is_set rs (occurrence k (suc a)) ≡ bit n a
    bit_is a q = sym (notes_bit note rs nt k a (omega (arith, small.0)) q)

    left_inputs : all (test true i) (count_from 1 i) ≡ true
    left_inputs = counted_all (test true i) 1 i (λ a p q. ap (λ x. x || is_set rs (occurrence k a)) (le-leb a i (omega arith)))

    left_outputs : all (test true i) (count_from (1 + i) y) ≡ ones (n / 2 ^ i) y
    left_outputs =
        let e0 : 1 + i ≡ 1 + i + 0 = omega arith in
        ap (λ (x : ℕ). all (test true i) (count_from x y)) e0
        ∙ count_shift (test true i) (1 + i) 0 y
        ∙ count_same (λ a. test true i (1 + i + a)) (λ a. bit (n / 2 ^ i) a) 0 y
        (λ a p q.
        let w : 1 + i + a ≡ suc (i + a) = omega arith in
        ap (λ x. x || is_set rs (occurrence k (1 + i + a))) (lt-leb (1 + i + a) i (omega arith))
        ∙ ap (λ (x : ℕ). is_set rs (occurrence k x)) w
        ∙ bit_is (i + a) (omega (arith, small.1 k inside))
        ∙ sym (bit_shifted n i a))
        ∙ ones_bits y (n / 2 ^ i)

    right_outputs : all (test false i) (count_from 1 i) ≡ ones n i
    right_outputs =
        count_shift (test false i) 1 0 i
        ∙ count_same (λ a. test false i (1 + a)) (λ a. bit n a) 0 i
        (λ a p q.
        let w : 1 + a ≡ suc a = omega arith in
        ap (λ x. not x || is_set rs (occurrence k (1 + a))) (le-leb (1 + a) i (omega arith))
        ∙ ap (λ (x : ℕ). is_set rs (occurrence k x)) w
        ∙ bit_is a (omega (arith, small.1 k inside)))
        ∙ ones_bits i n

    right_inputs : all (test false i) (count_from (1 + i) y) ≡ true
    right_inputs = counted_all (test false i) (1 + i) y (λ a p q. ap (λ x. not x || is_set rs (occurrence k a)) (lt-leb a i (omega arith)))

    by_side : (z : Bool) → all (test z i) (count_from 1 (i + y)) ≡ cond z (ones (n / 2 ^ i) y) (ones n i)
    by_side true = count_split (test true i) 1 i y ∙ ap₂ ◌&&◌ left_inputs left_outputs
    by_side false = count_split (test false i) 1 i y ∙ ap₂ ◌&&◌ right_outputs right_inputs ∙ and-true (ones n i)

    position_settled : all (λ x. is_input s e x || has_rule e x) (occurrences_at s e k) ≡ settled inh syn note k
    unfolding settled filled_at if_equal
    position_settled =
        all_mapped (λ x. is_input s e x || has_rule e x) (λ a. occurrence k a) (count_from 1 ((counts_at s (entry_symbol e k)).inherited + (counts_at s (entry_symbol e k)).synthesized))
        ∙ ap₂
        (λ u v. all (test (eqb k 0) u) (count_from 1 (u + v)))
        (inherited_in_lem h cs os ws es r c o l xs rs cds width inh syn pl k inside)
        (synthesized_in_lem h cs os ws es r c o l xs rs cds width inh syn pl k inside)
        ∙ by_side (eqb k 0)

  pub complete_judged : complete s e ≡ complete_note width inh syn note
  unfolding all_count
  complete_judged =
      let w : suc (length xs) ≡ suc width = ap suc (sym pl.wide) in
      ap (λ (x : ℕ). all (λ k. all (λ x. is_input s e x || has_rule e x) (occurrences_at s e k)) (count_from 0 x)) w
      ∙ count_same (λ k. all (λ x. is_input s e x || has_rule e x) (occurrences_at s e k)) (settled inh syn note) 0 (suc width) (λ k p q. position_settled k (omega arith))
