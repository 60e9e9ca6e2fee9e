-- The body of a production, part by part.
use Rattle.std.specs.Prelude.{ℕ, ◌+◌, ◌*◌, ◌≤◌, ◌≡◌, refl, false, length, get_or}
use Rattle.std.proofs.Common.{arith, sym, ap, ◌∙◌}
use Rattle.std.proofs.Math.Path.{subst}
use mathlib.Core.List.{List, ◌++◌, append_assoc}
use Rattle.meaning.specs.Limits.{area_length, symbols_limit}
use Rattle.meaning.specs.Grammar.{Production, Grammar}
use Rattle.meaning.specs.Scheme.{scheme, entry_tests}
use Rattle.meaning.specs.Program.{wait_row, entry_words, scheme_offset, body_words}
use Rattle.meaning.specs.Table.{byte}
use Rattle.theory_base.specs.Selectors.{syn_none}
use Rattle.theory_program.specs.Addresses.{expects_scheme}
use Rattle.theory_program.specs.Code.{conditions_length, expects_length}
use Rattle.program_block_words.specs.Patch.{patch, patch_length, Wrote, wrote_as, wrote_then, wrote_ahead, wrote_length}
use Rattle.program_block_words.specs.Walk.{item_count, item_words, words_of, count_few}
use Rattle.program_block_words.specs.Chains.{chain_words, ItemsFit}
use Rattle.program_body_words.specs.Levels.{Leveled, tests_words}
use Rattle.program_body_words.specs.SchemeWords.{end_words}
use Rattle.program_body_words.specs.OfProduction.{OfProduction, listed_of, Carried, Prepared, SymbolsFit, SymbolsWrote, rest_words, EndFits, rest_expects, body_words_lem, body_size_lem, BodyFits}
use Rattle.program_body_words.specs.Waits.{LeveledAndWaiting}
use Rattle.program_body_words.specs.Symbols.{tests_count}

module _ {row fields inherited synthesized marks links area : List ℕ} {carrying a wait : ℕ} (x : BodyFits row fields inherited synthesized carrying marks links area a wait) where
  abbrev g : Grammar
  g = x.given.grammar

  abbrev p : Production
  p = x.given.production

  pub wait_inside : wait + symbols_limit ≤ length area
  wait_inside = omega (arith, x.apart, x.room, x.long)

  -- how many entry tests there are, and the last node of their chain
  abbrev tests : ℕ
  tests = get_or marks 1 0

  abbrev last_test : ℕ
  last_test = get_or marks 33 0

  module _ (levels : List ℕ) {m0 : List ℕ} {n : ℕ}
      (ew : (y : OfProduction row fields inherited synthesized) → Carried carrying y.grammar → LeveledAndWaiting y levels area m0 wait)
      (en : n ≡ byte row 1) where
    el : Leveled g p levels
    el = (ew x.given x.carried).leveled

    waited : Wrote area m0 wait (wait + symbols_limit) (wait_row g p)
    waited = (ew x.given x.carried).waiting

    prepared : Prepared row fields inherited synthesized marks links levels
    prepared = record { given = x.given; found = x.found; leveled = el }

    long : area_length ≤ length m0
    long = omega (arith, x.long, wrote_length waited)

    count_is : tests ≡ item_count false 0 (listed_of x.given)
    count_is = x.found.counts false 0 (omega arith)

    tests_is : length (entry_tests g p) ≡ tests
    tests_is = tests_count g p 0 ∙ sym count_is

    expects_count : (b : ℕ) → length (rest_expects g p 0 b) ≡ length p.right
    unfolding rest_expects
    expects_count b = expects_length b (scheme g p) ∙ expects_scheme g p

    pub items_fit : ItemsFit fields links false tests last_test m0 (a + n)
    items_fit = record {
      chain = x.found.chains false 0 (omega arith);
      few = omega (arith, count_is, count_few fields (listed_of x.given) false 0, x.given.short);
      room = omega (arith, x.room, long, body_size_lem g p, en, x.given.size, tests_is);
    }

    module _ {m1 : List ℕ} {first : ℕ} (f1 : Wrote m0 m1 (a + n) first (chain_words false 0 levels fields links tests last_test)) where
      chain_is : chain_words false 0 levels fields links tests last_test ≡ item_words false 0 levels 0 (listed_of x.given)
      chain_is = sym (x.found.words false 0 levels 0 (omega arith))

      w1 : Wrote m0 m1 (a + n) first (entry_words g p)
      w1 = wrote_as (chain_is ∙ (ap (λ z. words_of false z levels 0 p.rules p.conditions) (sym (syn_none g p 0)) ∙ tests_words g p x.given.of_grammar levels el 0 (omega arith))) f1

      first_is : first ≡ a + scheme_offset g p
      first_is = omega (arith, w1.address, en, x.given.size)

      first_at : first ≡ a + length p.right + 3 * length (entry_tests g p)
      first_at = omega (arith, first_is, conditions_length (entry_tests g p))

      -- the addresses of the expects, which come with the symbols, and the entry tests behind them
      w2 : Wrote m0 (patch m1 a (rest_expects g p 0 first)) a first (rest_expects g p 0 (a + scheme_offset g p) ++ entry_words g p)
      w2 =
          let e : a + n ≡ a + length (rest_expects g p 0 first) = omega (arith, expects_count first, en, x.given.size) in
          wrote_as (ap (λ z. rest_expects g p 0 z ++ entry_words g p) first_is) (wrote_ahead w1 (record { memory = refl; address = e }))

      pub symbols_fit : SymbolsFit row fields inherited synthesized marks links levels m1 first a
      unfolding prepared
      symbols_fit = record { prepared = prepared; room = omega (arith, x.room, body_size_lem g p, first_at); long = omega (arith, long, wrote_length w1); apart = omega (arith, expects_count first, first_at) }

      module _ {m3 : List ℕ} {end : ℕ} (f3 : (y : SymbolsFit row fields inherited synthesized marks links levels m1 first a) → SymbolsWrote y m3 end) where
        w3 : Wrote m0 m3 a end ((rest_expects g p 0 (a + scheme_offset g p) ++ entry_words g p) ++ rest_words g p 0)
        unfolding symbols_fit prepared
        w3 = wrote_then w2 (f3 symbols_fit)

        pub end_fit : EndFits row fields inherited marks links levels m3 end
        unfolding prepared symbols_fit
        end_fit = record { synthesized = synthesized; prepared = prepared; room = omega (arith, x.room, body_size_lem g p, first_at, (f3 symbols_fit).address); long = omega (arith, long, wrote_length w3) }

        pub body_written : {new : List ℕ} {last : ℕ} → ((y : EndFits row fields inherited marks links levels m3 end) → Wrote m3 new end last (end_words y.prepared.given.grammar y.prepared.given.production)) → Wrote (patch area wait (wait_row g p)) new a last (body_words g a p)
        unfolding end_fit prepared
        body_written {new} {last} f4 = subst (λ z. Wrote z new a last (body_words g a p)) waited.memory (wrote_as (simp append_assoc (sym (body_words_lem g p a))) (wrote_then w3 (f4 end_fit)))

        pub body_size_kept : {new : List ℕ} {last : ℕ} → ((y : EndFits row fields inherited marks links levels m3 end) → Wrote m3 new end last (end_words y.prepared.given.grammar y.prepared.given.production)) → length new ≡ length area
        body_size_kept f4 = wrote_length (body_written f4) ∙ patch_length area wait (wait_row g p)
