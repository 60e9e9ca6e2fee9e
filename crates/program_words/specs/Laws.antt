-- What the builder's functions write, by the definitions of specs/.
use Rattle.std.specs.Prelude.{ℕ, ◌+◌, ◌*◌, ◌/◌, ◌%◌, ◌^◌, ◌≤◌, ◌<◌, ◌≡◌, refl, List, [], ◌∷◌, length, set, get_or}
use Rattle.std.proofs.Common.{div-one, arith, ap₂, ◌∙◌, subst, shr-shr, lt-ltb, le-ltb}
use Rattle.std.proofs.Math.Decide.{dec_lt}
use Rattle.std.proofs.Math.Path.{sym, ap}
use Rattle.std.specs.Int.Count.{count_trailing_zeros}
use Rattle.std.proofs.lemmas.Nat.{shr_le}
use Rattle.meaning.specs.Limits.{attributes_limit, nonterminals_limit, productions_limit, terminals_limit}
use Rattle.meaning.specs.Grammar.{Grammar, nonterminal, syn, nonterminal_count}
use Rattle.meaning.specs.Sets.{has}
use Rattle.meaning.specs.Program.{set_bits, carriers, segment_words, head_of, predict_operation, nothing_operation}
use Rattle.meaning.specs.Table.{byte}
use Rattle.theory_program.specs.Proper.{att_most}
use Rattle.program_block_words.specs.Patch.{Wrote, wrote_one, wrote_last, wrote_cons, wrote_as, wrote_then}
use Rattle.token_set.specs.SetBits.{bit, has_bit}
use Rattle.outline.specs.declared.Sizes.{Sizes}
use Rattle.outline.specs.Outline.{grammar_in, NumbersOf, Outline}
use Rattle.table.specs.CarriedSet.{carried_set}
use Rattle.program_words.specs.Fields.{stretch_end}
use Rattle.program_words.specs.Built.{well_formed_lem, count_is}
use Rattle.program_words.specs.Directory.{Marked, marked_start, marked_skip, marked_set, marked_end, bits_end, zero_run, bit_there}
use Rattle.program_words.specs.Records.{two_words}

pub four_written : (area : List ℕ) (at a b c d : ℕ) → Wrote area (set (set (set (set area at a) (at + 1) b) (at + 2) c) (at + 3) d) at (at + 4) (a ∷ b ∷ c ∷ d ∷ [])
four_written area at a b c d =
    wrote_cons refl
    (wrote_cons (omega arith)
    (wrote_cons (omega arith)
    (wrote_last (set (set (set area at a) (at + 1) b) (at + 2) c) (at + 3) d (omega arith))))

pub end_next : (table offsets : List ℕ) (count p r : ℕ) → p + 1 < count → r ≡ get_or offsets (p + 1) 0 → r ≡ stretch_end table offsets count p
unfolding stretch_end
end_next table offsets count p r l e = rw (lt-ltb (p + 1) count l) e

pub end_last : (table offsets : List ℕ) (count p : ℕ) → count ≤ p + 1 → length table ≡ stretch_end table offsets count p
unfolding stretch_end
end_last table offsets count p l = rw (le-ltb (p + 1) count l)

-- ---- marks

pub record MarkGo (old area : List ℕ) (from set number rest u : ℕ) : Type 0 where
  pub few : u ≤ 64
  pub bits : rest ≡ set / 2 ^ u
  pub marked : Marked old area from set number u

pub mark_start : (area : List ℕ) (from set number : ℕ) → MarkGo area area from set number set 0
mark_start area from set number = record { few = omega arith; bits = sym (div-one set); marked = marked_start area from set number }

module _ {old area : List ℕ} {from bits number rest u : ℕ} (m : MarkGo old area from bits number rest u) (wide : bits < 2 ^ 64) (some : rest ≡ 0 → ⊥) where
  abbrev gap : ℕ
  gap = count_trailing_zeros 64 rest

  there : rest / 2 ^ gap % 2 ≡ 1
  there = bit_there 64 rest some (omega (arith, m.bits, shr_le bits u))

  at_bit : rest / 2 ^ gap ≡ bits / 2 ^ (u + gap)
  at_bit = ap (λ n. n / 2 ^ gap) m.bits ∙ shr-shr bits u gap

  pub mark_few : u + gap < 64
  mark_few = go (dec_lt (u + gap) 64)
    where
      go : Dec (u + gap < 64) → u + gap < 64
      go (yes h) = h
      go (no h) = absurd (let z : rest / 2 ^ gap ≡ 0 = at_bit ∙ bits_end bits (u + gap) wide (omega arith) in omega (arith, there))

  pub mark_room : from + 64 ≤ length old → from + u + gap < length area
  mark_room h = omega (arith, mark_few, m.marked.size)

  pub mark_turn : from + 64 ≤ length old → MarkGo old (set area (from + u + gap) number) from bits number (rest / 2 ^ gap / 2) (u + gap + 1)
  mark_turn h =
      let place : from + (u + gap) ≡ from + u + gap = omega arith in
      record {
        few = omega (arith, mark_few);
        bits = ap (λ n. n / 2) at_bit ∙ shr-shr bits (u + gap) 1;
        marked = subst (λ z. Marked old (set area z number) from bits number (u + gap + 1)) place
            (marked_set (marked_skip m.marked gap (λ v l. ap (λ n. n / 2 ^ v % 2) (sym m.bits) ∙ zero_run 64 rest v l)) (ap (λ n. n % 2) (sym at_bit) ∙ there) mark_few (omega (arith, mark_few, m.marked.size)));
      }

-- half of what is left is less
pub mark_less : {old area : List ℕ} {from bits number rest u : ℕ} → MarkGo old area from bits number rest u → (rest ≡ 0 → ⊥) → rest / 2 ^ count_trailing_zeros 64 rest / 2 < rest
mark_less {rest = rest} m some = let h : rest / 2 ^ count_trailing_zeros 64 rest ≤ rest = shr_le rest (count_trailing_zeros 64 rest) in omega arith

pub mark_end : {old area : List ℕ} {from bits number rest u : ℕ} → MarkGo old area from bits number rest u → rest ≡ 0 → Marked old area from bits number 64
mark_end m e = marked_end m.marked (sym m.bits ∙ e) m.few

-- ---- the whole segment

abbrev segment_by : ℕ → ℕ → ℕ → ℕ → ℕ → ℕ → ℕ → ℕ → List ℕ
segment_by start nonterminals terminals registers result count low high = head_of predict_operation start ∷ nothing_operation ∷ (9 + 64 * nonterminals) ∷ terminals ∷ registers ∷ result ∷ count ∷ low ∷ high ∷ []

module _ {table : List ℕ} {sizes : Sizes} {inherited synthesized rows offsets : List ℕ} (x : Outline table sizes inherited synthesized rows offsets) where
  abbrev g : Grammar
  g = grammar_in table

  abbrev numbers : NumbersOf sizes g
  numbers = x.numbers

  pub start_small : sizes.start < sizes.nonterminals
  start_small = omega (arith, numbers.start, numbers.nonterminals, (well_formed_lem x).start)

  pub numbers_small : (sizes.nonterminals ≤ nonterminals_limit) × (sizes.terminals ≤ terminals_limit) × (sizes.result ≤ attributes_limit) × (sizes.productions ≤ productions_limit)
  numbers_small = (
    omega (arith, numbers.nonterminals, (well_formed_lem x).nonterminals.1),
    omega (arith, numbers.terminals, (well_formed_lem x).terminals.1),
    omega (arith, numbers.result, (well_formed_lem x).result.1, att_most g (well_formed_lem x) (nonterminal g.start)),
    omega (arith, count_is x, (well_formed_lem x).productions.1),
  )

  -- the carriers' two words
  carried_words : sizes.carrying.0 < 18446744073709551616 → (sizes.carrying.0 % 4294967296 ≡ set_bits (carriers g) 0 1 32) × (sizes.carrying.0 / 4294967296 ≡ set_bits (carriers g) 32 1 32)
  unfolding bit
  carried_words small = two_words (carriers g) sizes.carrying.0 small (λ u l. sym (has_bit sizes.carrying.0 u l) ∙ ap (λ z. has z u) (carried_set sizes.carrying.0 g numbers.carrying))

  pub segment_written : {old one two : List ℕ} {next last registers head : ℕ} → head ≡ head_of predict_operation sizes.start → registers ≡ byte synthesized sizes.start → sizes.carrying.0 < 18446744073709551616
      → Wrote old one 0 next (head ∷ nothing_operation ∷ (9 + 64 * sizes.nonterminals) ∷ sizes.terminals ∷ []) → Wrote one two next last (registers ∷ sizes.result ∷ sizes.productions ∷ sizes.carrying.0 % 4294967296 ∷ [])
      → Wrote old (set two last (sizes.carrying.0 / 4294967296)) 0 (last + 1) (segment_words g)
  segment_written {two = two} {last = last} {registers = registers} {head = head} h e small v w = wrote_as same (wrote_then (wrote_then (wrote_as first v) w) (wrote_one two last (sizes.carrying.0 / 4294967296)))
    where
      first : head ∷ nothing_operation ∷ (9 + 64 * sizes.nonterminals) ∷ sizes.terminals ∷ [] ≡ head_of predict_operation sizes.start ∷ nothing_operation ∷ (9 + 64 * sizes.nonterminals) ∷ sizes.terminals ∷ []
      first = ap (λ z. z ∷ nothing_operation ∷ (9 + 64 * sizes.nonterminals) ∷ sizes.terminals ∷ []) h

      low : ℕ
      low = sizes.carrying.0 % 4294967296

      high : ℕ
      high = sizes.carrying.0 / 4294967296

      registers_is : registers ≡ syn g (nonterminal g.start)
      registers_is = e ∙ (x.counts.synthesizes sizes.start (omega (arith, start_small, numbers.nonterminals)) ∙ ap (λ n. syn g (nonterminal n)) numbers.start)

      same : segment_by sizes.start sizes.nonterminals sizes.terminals registers sizes.result sizes.productions low high ≡ segment_words g
      same =
          ap₂ (λ n m. segment_by n m sizes.terminals registers sizes.result sizes.productions low high) numbers.start numbers.nonterminals
          ∙ (ap₂ (λ n m. segment_by g.start (nonterminal_count g) n m sizes.result sizes.productions low high) numbers.terminals registers_is
          ∙ (ap₂ (λ n m. segment_by g.start (nonterminal_count g) g.terminals (syn g (nonterminal g.start)) n m low high) numbers.result (count_is x)
          ∙ ap₂ (λ n m. segment_by g.start (nonterminal_count g) g.terminals (syn g (nonterminal g.start)) g.result (length g.productions) n m) (carried_words small).0 (carried_words small).1))
