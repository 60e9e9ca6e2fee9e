-- The words on the whole segment and those of a production's record, one by one.
use Rattle.std.specs.Prelude.{ℕ, ◌+◌, ◌/◌, ◌%◌, ◌^◌, ◌<◌, ◌≡◌, false, List, length, get_or, eqb}
use Rattle.std.proofs.Common.{arith, ap, ◌∙◌, add-zero}
use Rattle.std.proofs.Math.Decide.{dec_lt}
use Rattle.meaning.specs.Base.{any, count_from}
use Rattle.meaning.specs.Grammar.{Grammar, nonterminal, syn, production_at}
use Rattle.meaning.specs.Rules.{WellFormed}
use Rattle.meaning.specs.Scheme.{entry_tests}
use Rattle.meaning.specs.Sets.{TokenSet, has, starts}
use Rattle.meaning.specs.Program.{set_bits, carriers, records_address, head_of, predict_operation}
use Rattle.theory_base.specs.Members.{map_at}
use Rattle.theory_sets.specs.Verdicts.{counted}
use Rattle.theory_program.specs.Parts.{in_set}
use Rattle.theory_program.specs.WordsStand.{stands_word}
use Rattle.theory_program.specs.Addresses.{Begins, record_address, body_address, scheme_address, segment_at, record_at_lem}
use Rattle.theory_program.specs.SetWords.{set_bit}
use Rattle.theory_program.specs.Search.{next_word}

-- the first words of the program
pub record SegmentAt (g : Grammar) (ws : List ℕ) : Type 0 where
  pub expected : get_or ws 0 0 ≡ head_of predict_operation g.start
  pub nothing_left : get_or ws 1 0 ≡ 6
  pub records : get_or ws 2 0 ≡ records_address g
  pub terminals : get_or ws 3 0 ≡ g.terminals
  pub registers : get_or ws 4 0 ≡ syn g (nonterminal g.start)
  pub result : get_or ws 5 0 ≡ g.result
  pub productions : get_or ws 6 0 ≡ length g.productions
  pub carriers_low : get_or ws 7 0 ≡ set_bits (carriers g) 0 1 32
  pub carriers_high : get_or ws 8 0 ≡ set_bits (carriers g) 32 1 32

pub segment_words_lem : {g : Grammar} {ws : List ℕ} → Begins g ws → SegmentAt g ws
segment_words_lem {g} {ws} b =
    let s = segment_at b in
    record {
      expected = stands_word s 0 (omega arith);
      nothing_left = stands_word s 1 (omega arith);
      records = stands_word s 2 (omega arith);
      terminals = stands_word s 3 (omega arith);
      registers = stands_word s 4 (omega arith);
      result = stands_word s 5 (omega arith);
      productions = stands_word s 6 (omega arith);
      carriers_low = stands_word s 7 (omega arith);
      carriers_high = stands_word s 8 (omega arith);
    }

-- where place u of a set is: in the first word or in the second
below : (u : ℕ) → u % 32 < 32
below u = omega arith

in_first_lem : (u : ℕ) → u < 32 → (u / 32 ≡ 0) × (0 + u % 32 ≡ u)
in_first_lem u l = (omega arith, omega arith)

in_second : (u : ℕ) → (u < 32 → ⊥) → u < 64 → (u / 32 ≡ 1) × (32 + u % 32 ≡ u)
in_second u l m = (omega arith, omega arith)

-- a set in two words from address a on: a place is in it where its bit is set in the word that has it
module _ (ws : List ℕ) (a : ℕ) (s : TokenSet) (low : get_or ws a 0 ≡ set_bits s 0 1 32) (high : get_or ws (a + 1) 0 ≡ set_bits s 32 1 32) where
  pub words_set : (u : ℕ) → u < 64 → in_set ws a u ≡ has s u
  words_set u m = go (dec_lt u 32)
    where
      -- in the word d behind the first, whose places begin at k
      at : (d k : ℕ) → u / 32 ≡ d → k + u % 32 ≡ u → get_or ws (a + d) 0 ≡ set_bits s k 1 32 → in_set ws a u ≡ has s u
      at d k e q h = ap (λ n. eqb (n / 2 ^ (u % 32) % 2) 1) (ap (λ n. get_or ws (a + n) 0) e ∙ h) ∙ (set_bit s k 32 (u % 32) (below u) ∙ ap (has s) q)

      go : Dec (u < 32) → in_set ws a u ≡ has s u
      go (yes y) = let h = in_first_lem u y in at 0 0 h.0 h.1 (ap (λ z. get_or ws z 0) (add-zero a) ∙ low)
      go (no y) = let h = in_second u y m in at 1 32 h.0 h.1 high

-- the tokens that carry a value
carriers_at_lem : (g : Grammar) (t : ℕ) → t < 64 → has (carriers g) t ≡ any (eqb t) g.carrying
carriers_at_lem g t l = map_at (λ u. any (eqb u) g.carrying) (count_from 0 64) t 0 false l ∙ ap (λ u. any (eqb u) g.carrying) (counted 64 t l)

pub carrier_word : {g : Grammar} {ws : List ℕ} → Begins g ws → (t : ℕ) → t < 64 → in_set ws 7 t ≡ any (eqb t) g.carrying
carrier_word {g} {ws} b t l = let s = segment_words_lem b in words_set ws 7 (carriers g) s.carriers_low s.carriers_high t l ∙ carriers_at_lem g t l

-- the 8 words of production p's record
pub record RecordAt (g : Grammar) (ws : List ℕ) (p : ℕ) : Type 0 where
  pub left : get_or ws (record_address g p + 0) 0 ≡ (production_at g p).left
  pub next : get_or ws (record_address g p + 1) 0 ≡ next_word g p
  pub low : get_or ws (record_address g p + 2) 0 ≡ set_bits (starts g (production_at g p)) 0 1 32
  pub high : get_or ws (record_address g p + 3) 0 ≡ set_bits (starts g (production_at g p)) 32 1 32
  pub body : get_or ws (record_address g p + 4) 0 ≡ body_address g p
  pub tests : get_or ws (record_address g p + 5) 0 ≡ length (entry_tests g (production_at g p))
  pub scheme : get_or ws (record_address g p + 6) 0 ≡ scheme_address g p
  pub symbols : get_or ws (record_address g p + 7) 0 ≡ length (production_at g p).right

module _ {g : Grammar} {ws : List ℕ} (b : Begins g ws) (w : WellFormed g) (p : ℕ) (l : p < length g.productions) where
  pub record_words_lem : RecordAt g ws p
  record_words_lem =
      let s = record_at_lem b w p l in
      record {
        left = stands_word s 0 (omega arith);
        next = stands_word s 1 (omega arith);
        low = stands_word s 2 (omega arith);
        high = stands_word s 3 (omega arith);
        body = stands_word s 4 (omega arith);
        tests = stands_word s 5 (omega arith);
        scheme = stands_word s 6 (omega arith);
        symbols = stands_word s 7 (omega arith);
      }

  -- what comes next is in the set where its bit is set in the word that has it
  pub set_word : (u : ℕ) → u < 64 → in_set ws (record_address g p + 2) u ≡ has (starts g (production_at g p)) u
  set_word u m = words_set ws (record_address g p + 2) (starts g (production_at g p)) record_words_lem.low (ap (λ a. get_or ws a 0) (omega arith) ∙ record_words_lem.high) u m
