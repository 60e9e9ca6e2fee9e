-- The instructions of one symbol.
use Rattle.std.specs.Prelude.{ℕ, suc, ◌+◌, ◌-◌, ◌≤◌, ◌<◌, ◌≡◌, Bool, true, false, length, set, get_or}
use Rattle.std.proofs.Common.{arith, sym, ap, ap₂, ◌∙◌, length-append, length-set}
use Rattle.std.proofs.Math.Path.{subst}
use mathlib.Core.List.{List, ◌∷◌, ◌++◌, append_assoc}
use Rattle.std.proofs.Math.ListN.{length-map}
use Rattle.meaning.specs.Limits.{area_length, table_limit, positions_limit, symbols_limit}
use Rattle.meaning.specs.Grammar.{Production, Grammar, inh, added_for, symbol_at, map_rule, map_condition, conditions_at}
use Rattle.meaning.specs.Scheme.{syn_between, select_inherited, select_after, rules_for, inherited_rules, synthesized_rules, tests_after}
use Rattle.meaning.specs.Program.{symbol_head}
use Rattle.meaning.specs.Table.{byte}
use Rattle.theory_program.specs.Proper.{added_most, syn_most}
use Rattle.program_block_words.specs.Patch.{Wrote, wrote_as, wrote_one, wrote_then, wrote_length}
use Rattle.program_block_words.specs.Chains.{Found, BlockFits}
use Rattle.program_block_words.specs.Fields.{Listed}
use Rattle.program_block_words.specs.Walk.{items_at, words_of, item_count, block_words, block, count_few}
use Rattle.program_body_words.specs.Levels.{level, inherited_words, tests_words}
use Rattle.program_body_words.specs.SchemeWords.{add_words, add_size, block_size, add_length, ahead_size, symbol_words, symbol_length, evaluate_words, evaluate_length, test_words_value}
use Rattle.outline.specs.Counts.{count_at_value}
use Rattle.program_body_words.specs.OfProduction.{OfProduction, listed_of, expect_head, inherited_at, marked_at, head_at, SymbolFits, words_at, ahead_at}
use Rattle.program_body_words.specs.Laws.{size_some, set_beside}

-- ---- how many

module _ (g : Grammar) (p : Production) where
  pub inherited_count : (k : ℕ) → length (inherited_rules g p k) ≡ items_at true k p.rules p.conditions
  unfolding items_at
  inherited_count k = length-map (rules_for p k) (map_rule (select_inherited g p k))

  pub synthesized_count : length (synthesized_rules g p) ≡ items_at true 0 p.rules p.conditions
  unfolding items_at
  synthesized_count = length-map (rules_for p 0) (map_rule (select_after g p (length p.right)))

  pub tests_count : (k : ℕ) → length (tests_after g p k) ≡ items_at false k p.rules p.conditions
  unfolding items_at
  tests_count k = length-map (conditions_at p k) (map_condition (select_after g p k))

-- ---- a block finds room

abbrev pub block_fits : {fields links marks : List ℕ} (x : Listed fields) (found : Found fields links marks x) (short : length fields ≤ table_limit) (rules : Bool) (k : ℕ) {area : List ℕ} {a : ℕ}
    → k < positions_limit → a + block_size rules (item_count rules k x) ≤ length area → BlockFits fields links marks rules k area a
block_fits {fields} x found short rules k h l = record { listed = x; found = found; here = h; few = omega (arith, count_few fields x rules k); room = λ some. omega (arith, size_some rules (item_count rules k x) (omega arith)) }

module _ {row fields inherited synthesized marks links levels : List ℕ} {k : ℕ} {area : List ℕ} {a e : ℕ} (x : SymbolFits row fields inherited synthesized marks links levels k area a e) where
  abbrev given : OfProduction row fields inherited synthesized
  given = x.prepared.given

  abbrev g : Grammar
  g = given.grammar

  abbrev p : Production
  p = given.production

  short : length p.right ≤ symbols_limit
  short = given.of_grammar.short

  words_size : length (words_at given k) ≡ add_size (added_for g (symbol_at p (suc k))) + block_size true (length (inherited_rules g p (suc k))) + 1 + block_size false (length (tests_after g p (suc k)))
  unfolding ahead_size
  words_size = symbol_length g p (suc k) (symbol_at p (suc k))

  pub index_small : k < symbols_limit
  index_small = omega (arith, short, x.here)

  module _ {b own out : ℕ} (eb : b ≡ byte row (k + 2)) (eo : own ≡ count_at_value inherited b) (es : out ≡ count_at_value synthesized b) where
    own_is : own ≡ inh g (symbol_at p (suc k))
    own_is = eo ∙ (ap (count_at_value inherited) eb ∙ inherited_at given k x.here)

    all_is : own + out ≡ added_for g (symbol_at p (suc k))
    all_is = ap₂ (λ y z. y + z) own_is (es ∙ (ap (count_at_value synthesized) eb ∙ marked_at given k x.here))

    pub add_fits : (own + out < 512) × (a + add_size (own + out) ≤ length area)
    add_fits = (omega (arith, all_is, added_most g given.well_formed (symbol_at p (suc k))), omega (arith, ap add_size all_is, words_size, x.room, x.long))

    module _ {top : ℕ} (et : top ≡ get_or levels (k + 1) 0) where
      top_is : top ≡ level g p (suc k)
      top_is = let e : k + 1 ≡ suc k = omega arith in et ∙ (ap (λ z. get_or levels z 0) e ∙ x.prepared.leveled (suc k) (omega (arith, x.here)))

      pub top_small : top ≤ 1024
      top_small = omega (arith, top_is, syn_most g given.well_formed p short 0 (suc k), added_most g given.well_formed (symbol_at p (suc k)))

      pub own_below : own ≤ top
      own_below = omega (arith, own_is, top_is)

      after_is : top - own ≡ syn_between g p 0 (suc k)
      after_is = omega (arith, own_is, top_is)

      rules_length : length (inherited_rules g p (suc k)) ≡ item_count true (k + 1) (listed_of given)
      rules_length = let e : k + 1 ≡ suc k = omega arith in inherited_count g p (suc k) ∙ sym (ap (λ z. item_count true z (listed_of given)) e)

      evaluate_words_lem : block_words true top levels (k + 1) (listed_of given) ≡ evaluate_words (inherited_rules g p (suc k))
      evaluate_words_lem =
          let e : k + 1 ≡ suc k = omega arith in
          ap₂ (λ y z. block true y z) (sym rules_length) (ap₂ (λ y z. words_of true y levels z p.rules p.conditions) top_is e ∙ inherited_words g p given.of_grammar levels x.prepared.leveled k x.here)

      module _ {mid : List ℕ} {at : ℕ} (w : Wrote area mid a at (add_words (own + out))) where
        pub evaluate_fits : BlockFits fields links marks true (k + 1) mid at
        evaluate_fits = block_fits (listed_of given) x.prepared.found given.short true (k + 1) (omega (arith, index_small)) (omega (arith, w.address, add_length (own + out), ap add_size all_is, wrote_length w, words_size, x.room, x.long, ap (block_size true) rules_length))

        module _ {then : List ℕ} {next : ℕ} (f : (y : BlockFits fields links marks true (k + 1) mid at) → Wrote mid then at next (block_words true top levels (k + 1) y.listed)) where
          so_far : Wrote area then a next (add_words (added_for g (symbol_at p (suc k))) ++ evaluate_words (inherited_rules g p (suc k)))
          unfolding evaluate_fits
          so_far = wrote_then (wrote_as (ap add_words all_is) w) (wrote_as evaluate_words_lem (f evaluate_fits))

          next_is : next ≡ a + (add_size (added_for g (symbol_at p (suc k))) + block_size true (length (inherited_rules g p (suc k))))
          next_is = omega (arith, so_far.address, length-append (add_words (added_for g (symbol_at p (suc k)))) (evaluate_words (inherited_rules g p (suc k))), add_length (added_for g (symbol_at p (suc k))), evaluate_length (inherited_rules g p (suc k)))

          pub next_small : next < area_length
          next_small = omega (arith, next_is, words_size, x.room)

          pub next_inside : next < length (set then (e + k) next)
          next_inside = omega (arith, next_is, length-set then (e + k) next, wrote_length so_far, words_size, x.room, x.long)

          module _ {h : ℕ} (eh : h ≡ expect_head b) where
            tests_length : length (tests_after g p (suc k)) ≡ item_count false (k + 1) (listed_of given)
            tests_length = let e : k + 1 ≡ suc k = omega arith in tests_count g p (suc k) ∙ sym (ap (λ z. item_count false z (listed_of given)) e)

            test_words : block_words false (top - own) levels (k + 1) (listed_of given) ≡ test_words_value (tests_after g p (suc k))
            test_words =
                let e : k + 1 ≡ suc k = omega arith in
                ap₂ (λ y z. block false y z) (sym tests_length) (ap₂ (λ y z. words_of false y levels z p.rules p.conditions) after_is e ∙ tests_words g p given.of_grammar levels x.prepared.leveled (suc k) (omega (arith, x.here)))

            -- the area with the head word
            abbrev headed : List ℕ
            headed = set (set then (e + k) next) next h

            pub test_fits : BlockFits fields links marks false (k + 1) headed (next + 1)
            test_fits =
                block_fits (listed_of given) x.prepared.found given.short false (k + 1) (omega (arith, index_small))
                (omega (arith, next_is, length-set (set then (e + k) next) next h, length-set then (e + k) next, wrote_length so_far, words_size, x.room, x.long, ap (block_size false) tests_length))

            pub symbol_written : {new : List ℕ} {end : ℕ} → ((y : BlockFits fields links marks false (k + 1) headed (next + 1)) → Wrote headed new (next + 1) end (block_words false (top - own) levels (k + 1) y.listed)) → Wrote (set area (e + k) (a + ahead_at given k)) new a end (words_at given k)
            unfolding symbol_words test_fits ahead_size
            symbol_written {new} {end} q =
                let here : h ≡ symbol_head (symbol_at p (suc k)) = eh ∙ (ap expect_head eb ∙ head_at given k x.here) in
                let last = wrote_then (wrote_one (set then (e + k) next) next h) (wrote_as test_words (q test_fits)) in
                let beside = set_beside (e + k) next x.apart so_far in
                let tests = test_words_value (tests_after g p (suc k)) in
                let order = append_assoc (add_words (added_for g (symbol_at p (suc k)))) (evaluate_words (inherited_rules g p (suc k))) (symbol_head (symbol_at p (suc k)) ∷ tests) in
                let all : Wrote (set area (e + k) next) new a end (words_at given k) = wrote_as order (wrote_then beside (wrote_as (ap (λ z. z ∷ tests) here) last)) in
                subst (λ z. Wrote (set area (e + k) z) new a end (words_at given k)) next_is all

            pub symbol_size : {new : List ℕ} {end : ℕ} → ((y : BlockFits fields links marks false (k + 1) headed (next + 1)) → Wrote headed new (next + 1) end (block_words false (top - own) levels (k + 1) y.listed)) → length new ≡ length area
            symbol_size q = wrote_length (symbol_written q) ∙ length-set area (e + k) (a + ahead_at given k)
