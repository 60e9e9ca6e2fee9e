-- Predict: the search along the directory and the next-words by the words of the program, and the push of the production found.
use Prim.Native.Nat.{ℕ, zero, suc, ◌+◌, ◌-◌, ◌*◌, ◌≤◌, ◌<◌}
use Rattle.std.proofs.Common.{arith, sym, ap, ap₂, ◌∙◌, subst₂}
use Rattle.std.specs.Prelude.{◌≡◌, refl, Bool, true, false, ◌&&◌, List, length, get_or, ℤ}
use Rattle.meaning.specs.Limits.{productions_limit}
use Rattle.meaning.specs.Base.{In, all}
use Rattle.meaning.specs.Grammar.{Grammar, Condition, production_at}
use Rattle.meaning.specs.Value.{holds}
use Rattle.meaning.specs.Scheme.{entry_tests}
use Rattle.meaning.specs.Rules.{WellFormed, Reads}
use Rattle.meaning.specs.Sets.{has, starts}
use Rattle.meaning.specs.Machine.{entered, read_register}
use Rattle.theory_program.specs.WordsStand.{stands_within}
use Rattle.theory_program.specs.Parts.{in_set}
use Rattle.theory_program.specs.Code.{conditions_length}
use Rattle.theory_program.specs.Addresses.{Begins, record_address, scheme_address, entry_address, record_at_lem, entry_at, entry_before}
use Rattle.theory_program.specs.Proper.{ProperCondition, production_in, entry_proper}
use Rattle.theory_program.specs.Records.{segment_words_lem, record_words_lem, set_word}
use Rattle.theory_program.specs.Search.{next_word, next_listed, passes, found, found_turn, found_stop}
use Rattle.run_registers.specs.Read.{Valued, Tests, tests, conditions_from, conditions_read}
use Rattle.run_moves.specs.Passing.{look_of, look_number_lem}

-- ---- the record of a production, by the number plus 1 that the directory and the next-words say

abbrev pub record_of : List ℕ → ℕ → ℕ
record_of ws p = get_or ws 2 0 + 8 * (p - 1)

-- the entry tests stand right before the scheme
abbrev pub entry_conditions : List ℕ → ℕ → List (Condition ℕ)
entry_conditions ws r = conditions_from ws (get_or ws (r + 6) 0 - 3 * get_or ws (r + 5) 0) (get_or ws (r + 5) 0)

abbrev pub enters_at : List ℕ → List ℤ → ℕ → Bool
enters_at ws rs r = all (holds (read_register rs)) (entry_conditions ws r)

-- bit u of the two words of the set
abbrev pub holds_at : List ℕ → ℕ → ℕ → Bool
holds_at ws r u = in_set ws (r + 2) u

-- the words of a record can be read, and its entry tests can be tested on rs
pub record Testable (ws : List ℕ) (rs : List ℤ) (r : ℕ) : Type 0 where
  pub inside : r + 8 ≤ length ws
  pub order : 3 * get_or ws (r + 5) 0 ≤ get_or ws (r + 6) 0
  pub tested : Tests ws (get_or ws (r + 6) 0 - 3 * get_or ws (r + 5) 0) (get_or ws (r + 5) 0) rs

module _ {g : Grammar} {ws : List ℕ} (b : Begins g ws) (w : WellFormed g) (rs : List ℤ) (q : ℕ) (l : q < length g.productions) where
  abbrev entries : List (Condition ℕ)
  entries = entry_tests g (production_at g q)

  proper_entries : (c : Condition ℕ) → In c entries → ProperCondition c
  proper_entries = entry_proper g w (production_at g q) (production_in g w q l)

  pub at_record : record_of ws (suc q) ≡ record_address g q
  at_record = omega (arith, (segment_words_lem b).records)

  at_tests : get_or ws (record_of ws (suc q) + 5) 0 ≡ length entries
  at_tests = ap (λ a. get_or ws (a + 5) 0) at_record ∙ (record_words_lem b w q l).tests

  pub at_scheme : get_or ws (record_of ws (suc q) + 6) 0 ≡ scheme_address g q
  at_scheme = ap (λ a. get_or ws (a + 6) 0) at_record ∙ (record_words_lem b w q l).scheme

  at_next : get_or ws (record_of ws (suc q) + 1) 0 ≡ next_word g q
  at_next = ap (λ a. get_or ws (a + 1) 0) at_record ∙ (record_words_lem b w q l).next

  at_entries : get_or ws (record_of ws (suc q) + 6) 0 - 3 * get_or ws (record_of ws (suc q) + 5) 0 ≡ entry_address g q
  at_entries = ap₂ (λ x y. x - 3 * y) at_scheme at_tests ∙ sym (entry_before g q)

  pub testable_here : ((t : Condition ℕ) → In t entries → Reads (Valued rs) t) → Testable ws rs (record_of ws (suc q))
  testable_here v =
      record {
        inside = omega (arith, at_record, stands_within (record_at_lem b w q l));
        order = omega (arith, at_tests, at_scheme, conditions_length entries);
        tested = subst₂ (λ a n. Tests ws a n rs) (sym at_entries) (sym at_tests) (tests entries rs (entry_at b w q l) proper_entries v);
      }

  pub entered_here : enters_at ws rs (record_of ws (suc q)) ≡ entered g rs q
  entered_here = ap (all (holds (read_register rs))) (ap₂ (conditions_from ws) at_entries at_tests ∙ conditions_read entries (entry_at b w q l) proper_entries)

  -- what is tested of a word is whether the set holds it
  pub holds_here : (u : ℕ) → u < 64 → holds_at ws (record_of ws (suc q)) u ≡ has (starts g (production_at g q)) u
  holds_here u m = ap (λ a. in_set ws (a + 2) u) at_record ∙ set_word b w q l u m

-- ---- the search

-- a word p that leads to a production of nonterminal n, or nowhere, where the entry tests of n's productions read values among rs
pub record Leads (g : Grammar) (ws : List ℕ) (rs : List ℤ) (n p : ℕ) : Type 0 where
  pub begins : Begins g ws
  pub well_formed : WellFormed g
  pub listed : (q : ℕ) → p ≡ suc q → (q < length g.productions) × ((production_at g q).left ≡ n)
  pub valued : (q : ℕ) → q < length g.productions → (production_at g q).left ≡ n → (t : Condition ℕ) → In t (entry_tests g (production_at g q)) → Reads (Valued rs) t

-- some grammar and nonterminal
pub record Led (ws : List ℕ) (rs : List ℤ) (p : ℕ) : Type 0 where
  pub grammar : Grammar
  pub wanted : ℕ
  pub leads : Leads grammar ws rs wanted p

-- how many productions may still come
unfoldable pub turns : ℕ → ℕ
turns zero = 0
turns (suc q) = productions_limit - q

module _ {g : Grammar} {ws : List ℕ} {rs : List ℤ} {n p : ℕ} (s : Leads g ws rs n p) where
  abbrev here : ℕ → Type 0
  here q = (p ≡ suc q) × (q < length g.productions) × ((production_at g q).left ≡ n)

  at_production : (p ≡ 0 → ⊥) → (q : ℕ) × here q
  at_production z = go p refl z
    where
      go : (k : ℕ) → p ≡ k → (k ≡ 0 → ⊥) → (q : ℕ) × here q
      go zero e y = absurd (y refl)
      go (suc q) e y = let l = s.listed q e in (q, (e, l.0, l.1))

  module _ (z : p ≡ 0 → ⊥) where
    abbrev found_q : ℕ
    found_q = (at_production z).0

    is_suc : p ≡ suc found_q
    is_suc = (at_production z).1.0

    below : found_q < length g.productions
    below = (at_production z).1.1

    pub production_small : p ≤ productions_limit
    production_small = omega (arith, is_suc, below, s.well_formed.productions.1)

    pub testable_of : Testable ws rs (record_of ws p)
    testable_of = rw is_suc (testable_here s.begins s.well_formed rs found_q below (s.valued found_q below (at_production z).1.2))

    -- the word that leads on
    pub leads_on_lem : Leads g ws rs n (get_or ws (record_of ws p + 1) 0)
    leads_on_lem =
        record {
          begins = s.begins;
          well_formed = s.well_formed;
          listed = λ q e.
              let k = next_listed g s.well_formed found_q q below (sym (at_next s.begins s.well_formed rs found_q below) ∙ (ap (λ j. get_or ws (record_of ws j + 1) 0) (sym is_suc) ∙ e)) in
              (k.1, k.2 ∙ (at_production z).1.2);
          valued = s.valued;
        }

    pub fewer_turns : turns (get_or ws (record_of ws p + 1) 0) < turns p
    unfolding turns
    fewer_turns = rw (is_suc, at_next s.begins s.well_formed rs found_q below) (go (next_word g found_q) refl)
      where
        go : (k : ℕ) → next_word g found_q ≡ k → turns k < turns (suc found_q)
        go zero e = omega (arith, below, s.well_formed.productions.1)
        go (suc q) e = let k = next_listed g s.well_formed found_q q below e in omega (arith, k.0, k.1, below, s.well_formed.productions.1)

    module _ (u : ℕ) (small : u < 64) where
      passes_of : passes g rs (look_of u) found_q ≡ holds_at ws (record_of ws p) u && enters_at ws rs (record_of ws p)
      passes_of =
          ap (λ k. has (starts g (production_at g found_q)) k && entered g rs found_q) (look_number_lem u)
          ∙ sym (ap (λ j. holds_at ws (record_of ws j) u && enters_at ws rs (record_of ws j)) is_suc ∙ ap₂ ◌&&◌ (holds_here s.begins s.well_formed rs found_q below u small) (entered_here s.begins s.well_formed rs found_q below))

      -- a production that does not pass is left for the next one
      pub search_turn : false ≡ holds_at ws (record_of ws p) u && enters_at ws rs (record_of ws p) → found g rs n (look_of u) p ≡ found g rs n (look_of u) (get_or ws (record_of ws p + 1) 0)
      search_turn h =
          ap (found g rs n (look_of u)) is_suc
          ∙ (found_turn g s.well_formed rs n (look_of u) found_q below (at_production z).1.2 (passes_of ∙ sym h)
          ∙ ap (found g rs n (look_of u)) (sym (ap (λ j. get_or ws (record_of ws j + 1) 0) is_suc ∙ at_next s.begins s.well_formed rs found_q below)))

      pub search_stop : true ≡ holds_at ws (record_of ws p) u && enters_at ws rs (record_of ws p) → p ≡ found g rs n (look_of u) p
      search_stop h = is_suc ∙ sym (ap (found g rs n (look_of u)) is_suc ∙ found_stop g s.well_formed rs n (look_of u) found_q below (at_production z).1.2 (passes_of ∙ sym h))
