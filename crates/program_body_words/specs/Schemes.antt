-- All symbols of a production with the addresses of their expects, and the end of its scheme.
use Prim.Native.Nat.{ℕ, suc, ◌+◌, ◌-◌, ◌≤◌, ◌<◌}
use native.Mathlib.Omega.{arith}
use Rattle.std.specs.Prelude.{◌≡◌, List, [], ◌∷◌, set, get_or}
use Rattle.std.proofs.Math.Path.{sym, ap, ap₂}
use Rattle.std.proofs.Common.{◌∙◌}
use Rattle.std.proofs.Math.Bool.{true}
use Rattle.std.proofs.Math.ListN.{length, length-append}
use Rattle.meaning.specs.Program.{head_of, remove_operation}
use Rattle.meaning.specs.Limits.{area_length}
use Rattle.meaning.specs.Grammar.{Production, Grammar, nonterminal, inh, symbol_at}
use Rattle.meaning.specs.Scheme.{syn_between, removed, synthesized_rules}
use Rattle.meaning.specs.Table.{byte}
use Rattle.theory_base.specs.Selectors.{syn_none}
use Rattle.theory_program.specs.Proper.{syn_most}
use Rattle.program_block_words.specs.Patch.{patch, patch_none, patch_length, Wrote, wrote_as, wrote_one, wrote_then, wrote_length, Onward, onward_start, onward_as, onward_then, onward_end}
use Rattle.program_block_words.specs.Chains.{BlockFits}
use Rattle.program_block_words.specs.Walk.{item_count, words_of, block_words, block}
use Rattle.program_body_words.specs.Levels.{synthesized_words}
use Rattle.program_body_words.specs.SchemeWords.{block_size, evaluate_words, evaluate_length, end_words}
use Rattle.outline.specs.Counts.{count_at_value}
use Rattle.program_body_words.specs.OfProduction.{OfProduction, right_of, listed_of, inherited_at, left_inherited, Prepared, words_at, ahead_at, SymbolFits, SymbolWrote, SymbolsFit, SymbolsWrote, rest_words, words_turn, words_end, EndFits, rest_expects, expects_turn, expects_over}
use Rattle.program_body_words.specs.Laws.{patch_beside}
use Rattle.program_body_words.specs.Symbols.{synthesized_count, block_fits}

-- ---- all symbols

module _ (row fields inherited synthesized marks links levels old : List ℕ) (address expects : ℕ) where
  -- the first k symbols are written
  pub record SymbolsPart (x : SymbolsFit row fields inherited synthesized marks links levels old address expects) (k : ℕ) (area : List ℕ) (to : ℕ) : Type 0 where
    pub onward : Onward (patch old expects (rest_expects x.prepared.given.grammar x.prepared.given.production 0 address)) address (rest_words x.prepared.given.grammar x.prepared.given.production 0)
        (patch area (expects + k) (rest_expects x.prepared.given.grammar x.prepared.given.production k to)) to (rest_words x.prepared.given.grammar x.prepared.given.production k)
    pub rest : k + length (rest_expects x.prepared.given.grammar x.prepared.given.production k to) ≡ length (rest_expects x.prepared.given.grammar x.prepared.given.production 0 address)
    pub behind : address ≤ to

  pub record SymbolsGo (k : ℕ) (area : List ℕ) (to : ℕ) : Type 0 where
    pub go : (x : SymbolsFit row fields inherited synthesized marks links levels old address expects) → SymbolsPart x k area to

module _ {row fields inherited synthesized marks links levels old : List ℕ} {address expects : ℕ} where
  pub symbols_start : SymbolsGo row fields inherited synthesized marks links levels old address expects 0 old address
  symbols_start = record { go = λ x. record { onward = let e : expects + 0 ≡ expects = omega arith in rw e (onward_start _ _ _); rest = omega arith; behind = omega arith } }

  module _ {k : ℕ} {area : List ℕ} {to : ℕ} (s : SymbolsGo row fields inherited synthesized marks links levels old address expects k area to) (n : ℕ) (is : n ≡ byte row 1) where
    pub symbols_end : n ≤ k → (x : SymbolsFit row fields inherited synthesized marks links levels old address expects) → SymbolsWrote x area to
    symbols_end l x =
        let gr = x.prepared.given.grammar in
        let pr = x.prepared.given.production in
        let past : length pr.right ≤ k = omega (arith, is, x.prepared.given.size) in
        let same : patch area (expects + k) (rest_expects gr pr k to) ≡ area = ap (patch area (expects + k)) (expects_over gr pr k to past) ∙ patch_none area (expects + k) in
        let wrote = onward_end (onward_as (words_end gr pr k past) (s.go x).onward) in
        rw same at wrote

    pub symbols_size : SymbolsFit row fields inherited synthesized marks links levels old address expects → length area ≡ length old
    symbols_size x = omega (arith, (s.go x).onward.size, patch_length old expects (rest_expects x.prepared.given.grammar x.prepared.given.production 0 address), patch_length area (expects + k) (rest_expects x.prepared.given.grammar x.prepared.given.production k to))

    module _ (l : k < n) where
      rest_more : (x : SymbolsFit row fields inherited synthesized marks links levels old address expects)
          → rest_expects x.prepared.given.grammar x.prepared.given.production k to ≡ (to + ahead_at x.prepared.given k) ∷ rest_expects x.prepared.given.grammar x.prepared.given.production (k + 1) (to + length (words_at x.prepared.given k))
      rest_more x = expects_turn x.prepared.given.grammar x.prepared.given.production k to (omega (arith, is, x.prepared.given.size))

      pub symbol_fits : SymbolsFit row fields inherited synthesized marks links levels old address expects → SymbolFits row fields inherited synthesized marks links levels k area to expects
      symbol_fits x =
          let given = x.prepared.given in
          let here : k < length (right_of given) = omega (arith, is, given.size) in
          let o = s.go x in
          record {
            prepared = x.prepared;
            here = here;
            room = omega (arith, x.room, o.onward.address, ap length (words_turn given.grammar given.production k here), length-append (words_at given k) (rest_words given.grammar given.production (k + 1)));
            long = omega (arith, x.long, symbols_size x);
            apart = omega (arith, x.apart, o.rest, o.behind, ap length (rest_more x));
          }

      module _ {new : List ℕ} {next : ℕ} (f : (y : SymbolFits row fields inherited synthesized marks links levels k area to expects) → SymbolWrote y new next) where
        module _ (x : SymbolsFit row fields inherited synthesized marks links levels old address expects) where
          abbrev tg : Grammar
          tg = x.prepared.given.grammar

          abbrev tp : Production
          tp = x.prepared.given.production

          abbrev ahead : ℕ
          ahead = to + ahead_at x.prepared.given k

          wrote : Wrote (set area (expects + k) ahead) new to next (words_at x.prepared.given k)
          unfolding symbol_fits
          wrote = f (symbol_fits x)

          rest_is : rest_expects tg tp k to ≡ ahead ∷ rest_expects tg tp (k + 1) next
          rest_is = rest_more x ∙ ap (λ z. ahead ∷ rest_expects tg tp (k + 1) z) (sym wrote.address)

          both : Wrote (patch area (expects + k) (rest_expects tg tp k to)) (patch new (expects + (k + 1)) (rest_expects tg tp (k + 1) next)) to next (words_at x.prepared.given k)
          unfolding patch
          both =
              let e : suc (expects + k) ≡ expects + (k + 1) = omega arith in
              rw (rest_is, sym e) (patch_beside (suc (expects + k)) (rest_expects tg tp (k + 1) next) (omega (arith, x.apart, (s.go x).rest, (s.go x).behind, ap length rest_is)) wrote)

          part_turn : SymbolsPart row fields inherited synthesized marks links levels old address expects x (k + 1) new next
          part_turn = record {
            onward = onward_then (onward_as (words_turn tg tp k (omega (arith, is, x.prepared.given.size))) (s.go x).onward) both;
            rest = omega (arith, (s.go x).rest, ap length rest_is);
            behind = omega (arith, (s.go x).behind, wrote.address);
          }

        pub symbols_turn : SymbolsGo row fields inherited synthesized marks links levels old address expects (k + 1) new next
        symbols_turn = record { go = part_turn }

-- ---- the end

module _ {row fields inherited synthesized marks links levels : List ℕ} (x : Prepared row fields inherited synthesized marks links levels) (n : ℕ) (is : n ≡ byte row 1) where
  abbrev g : Grammar
  g = x.given.grammar

  abbrev p : Production
  p = x.given.production

  size_is : n ≡ length p.right
  size_is = is ∙ x.given.size

  pub sum_none : n ≡ 0 → 0 ≡ syn_between g p 0 (length p.right)
  sum_none e = sym (ap (syn_between g p 0) (sym size_is ∙ e) ∙ syn_none g p 0)

  module _ (some : n ≡ 0 → ⊥) {b own top : ℕ} (eb : b ≡ byte row (n + 1)) (eo : own ≡ count_at_value inherited b) (et : top ≡ get_or levels n 0) where
    last : suc (n - 1) ≡ n
    last = omega arith

    own_is : own ≡ inh g (symbol_at p (suc (n - 1)))
    own_is =
        let e : n - 1 + 2 ≡ n + 1 = omega arith in
        eo ∙ (ap (count_at_value inherited) (eb ∙ ap (byte row) (sym e)) ∙ inherited_at x.given (n - 1) (omega (arith, size_is)))

    top_is : top ≡ syn_between g p 0 (suc (n - 1)) + inh g (symbol_at p (suc (n - 1)))
    top_is = et ∙ (ap (λ z. get_or levels z 0) (sym last) ∙ x.leveled (suc (n - 1)) (omega (arith, size_is)))

    pub own_below : own ≤ top
    own_below = omega (arith, own_is, top_is)

    pub sum_some : top - own ≡ syn_between g p 0 (length p.right)
    sum_some = let e : top - own ≡ syn_between g p 0 (suc (n - 1)) = omega (arith, own_is, top_is) in e ∙ ap (syn_between g p 0) (last ∙ size_is)

module _ {row fields inherited marks links levels area : List ℕ} {a : ℕ} (x : EndFits row fields inherited marks links levels area a) where
  abbrev given : OfProduction row fields inherited x.synthesized
  given = x.prepared.given

  abbrev gr : Grammar
  gr = given.grammar

  abbrev pr : Production
  pr = given.production

  end_size : length (end_words gr pr) ≡ block_size true (length (synthesized_rules gr pr)) + 1
  unfolding end_words
  end_size = length-append (evaluate_words (synthesized_rules gr pr)) (head_of remove_operation (removed gr pr) ∷ []) ∙ omega (arith, evaluate_length (synthesized_rules gr pr))

  module _ {sum own l : ℕ} (f : (y : Prepared row fields inherited x.synthesized marks links levels) → sum ≡ syn_between y.given.grammar y.given.production 0 (length (right_of y.given))) (el : l ≡ byte row 0) (eo : own ≡ byte inherited l) where
    pub sum_small : sum ≤ 96
    sum_small = omega (arith, f x.prepared, syn_most gr given.well_formed pr given.of_grammar.short 0 (length pr.right))

    left_is : own ≡ inh gr (nonterminal pr.left)
    left_is = eo ∙ (ap (byte inherited) el ∙ left_inherited given)

    rules_length : length (synthesized_rules gr pr) ≡ item_count true 0 (listed_of given)
    rules_length = synthesized_count gr pr

    pub end_block : BlockFits fields links marks true 0 area a
    end_block = block_fits (listed_of given) x.prepared.found given.short true 0 (omega arith) (omega (arith, x.room, x.long, end_size, ap (block_size true) rules_length))

    module _ {mid : List ℕ} {next : ℕ} (q : (y : BlockFits fields links marks true 0 area a) → Wrote area mid a next (block_words true sum levels 0 y.listed)) where
      so_far : Wrote area mid a next (evaluate_words (synthesized_rules gr pr))
      unfolding end_block
      so_far = wrote_as (ap₂ (λ y z. block true y z) (sym rules_length) (ap (λ y. words_of true y levels 0 pr.rules pr.conditions) (f x.prepared) ∙ synthesized_words gr pr given.of_grammar levels x.prepared.leveled)) (q end_block)

      pub next_small : next < area_length
      next_small = omega (arith, so_far.address, evaluate_length (synthesized_rules gr pr), x.room, end_size)

      pub next_inside : next < length mid
      next_inside = omega (arith, next_small, wrote_length so_far, x.long)

      pub end_written : {w : ℕ} → w ≡ head_of remove_operation (own + sum) → Wrote area (set mid next w) a (next + 1) (end_words gr pr)
      unfolding end_words
      end_written {w} ew =
          let e : own + sum ≡ removed gr pr = ap₂ (λ y z. y + z) left_is (f x.prepared) in
          wrote_then so_far (wrote_as (ap (λ z. z ∷ []) ew ∙ ap (λ z. head_of remove_operation z ∷ []) e) (wrote_one mid next w))
