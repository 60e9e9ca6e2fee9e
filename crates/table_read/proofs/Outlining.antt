-- What is read once the last production is over is the outline of the table.
use Prim.Native.Nat.{ℕ, ◌≤◌, ◌<◌}
use native.Mathlib.Omega.{arith}
use mathlib.Core.Path.{◌≡◌, sym, ap, ◌∙◌, subst}
use mathlib.Core.List.{List, reverse}
use lib.ListN.{get_or, length, length-map, length-reverse}
use Rattle.meaning.specs.Limits.{symbols_limit}
use Rattle.meaning.specs.Grammar.{Grammar, no_counts, nonterminal, inh, syn, production_at, nonterminal_count}
use Rattle.meaning.specs.Judgement.{entry_offset}
use Rattle.meaning.specs.Table.{State, Entry, no_entry, well_formed, read_table, production_of, grammar_of}
use Rattle.theory_table.specs.Places.{read_places}
use Rattle.theory_table.specs.ReadWellFormed.{read_well_formed}
use Rattle.outline.specs.declared.Sizes.{Sizes}
use Rattle.outline.specs.Images.{ImageOf, size_at, right_at, right_is, row_start}
use Rattle.outline.specs.Outline.{grammar_in, state_in, state_read_lem, grammar_read, Carries, Outline}
use Rattle.table_fields.specs.Reads.{state_of}
use Rattle.table_counts.specs.Counted.{header_in, counts_up_to, offsets_up_to}
use Rattle.table_counts.proofs.Counting.{length_counts}
use Rattle.std.specs.Prelude.{Ok}
use Rattle.table.specs.Laid.{RowOf}
use Rattle.table.specs.Answer.{AnswersFrom}
use Rattle.table_production.specs.Productions.{HeaderRead}
use Rattle.table_production.proofs.Producing.{numbered, counts_at_lem}
use Rattle.table_production.proofs.ProductionRows.{Entries, Reached, reached_end}

module _ (t : List ℕ) (from : ℕ) (sizes : Sizes) (inherited synthesized rows offsets : List ℕ) (p at r c : ℕ) (ready : HeaderRead t sizes inherited synthesized) (w : Reached t from sizes.nonterminals sizes.carrying.0 inherited synthesized rows offsets p at r c) where
  -- the numbers with that of the productions
  abbrev counted : Sizes
  counted = record { terminals = sizes.terminals; nonterminals = sizes.nonterminals; start = sizes.start; result = sizes.result; productions = p; carrying = sizes.carrying }

  module _ (ws : List ℕ) (held : Carries sizes.carrying.0 (reverse ws)) (f : Entries t from sizes.nonterminals inherited synthesized ws rows offsets p at r c) where
    abbrev s : State
    s = state_of (header_in t) (counts_up_to inherited synthesized sizes.nonterminals) (offsets_up_to sizes.nonterminals) ws f.entries r c

    abbrev g : Grammar
    g = grammar_of s

    abbrev entry : ℕ → Entry
    entry i = get_or (reverse f.entries) i no_entry

    row : (i : ℕ) → i < p → RowOf rows offsets i (entry i)
    row i l = numbered no_entry (RowOf rows offsets) f.entries f.laid i (omega (arith, f.count))

    nonterminals_are : sizes.nonterminals ≡ nonterminal_count g
    nonterminals_are = sym (length-reverse (counts_up_to inherited synthesized sizes.nonterminals) ∙ length_counts inherited synthesized sizes.nonterminals)

    counts_are : (n : ℕ) → n < nonterminal_count g → record { inherited = get_or inherited n 0; synthesized = get_or synthesized n 0 } ≡ get_or g.counts n no_counts
    counts_are n l = sym (counts_at_lem inherited synthesized sizes.nonterminals n (omega (arith, nonterminals_are)))

    module _ (u : List ℕ) (h : read_table u ≡ well_formed s) where
      entry_is : (i : ℕ) → i < p → production_at g i ≡ production_of (entry i)
      entry_is i l = (read_places u s h).is_production i (omega (arith, f.count))

      many : length g.productions ≡ p
      many = omega (arith, length-map (reverse f.entries) production_of, length-reverse f.entries, f.count)

      room : row_start p ≤ length rows
      room = omega (arith, w.few, w.kept)

      short : (i : ℕ) → i < p → size_at rows i ≤ symbols_limit
      short i l = omega (arith, (row i l).size, (row i l).short)

      right : (i : ℕ) → i < p → right_at rows i ≡ (production_at g i).right
      right i l = right_is rows p room i l (short i l) (entry i).right (row i l).size (row i l).symbols ∙ sym (ap (λ q. q.right) (entry_is i l))

      rows_of_lem : ImageOf rows p g
      rows_of_lem = record {
        sound = read_well_formed u s h;
        narrow = (read_well_formed u s h).nonterminals.1;
        counted = many;
        room = room;
        sizes = short;
        left = λ i l. (row i l).left ∙ sym (ap (λ q. q.left) (entry_is i l));
        right = right;
      }

      state_is_lem : state_in u ≡ s
      state_is_lem = state_read_lem u s h

      grammar_is : g ≡ grammar_in u
      grammar_is = sym (grammar_read u s h)

      outline : Outline u counted inherited synthesized rows offsets
      outline = record {
        productions = record {
          is_read = h ∙ ap well_formed (sym state_is_lem);
          rows_of = subst (ImageOf rows p) grammar_is rows_of_lem;
          offset = λ i l. (row i l).offset ∙ ap (λ z. entry_offset z i) (sym state_is_lem);
        };
        numbers = record {
          terminals = ready.terminals ∙ ap (λ z. z.terminals) grammar_is;
          nonterminals = nonterminals_are ∙ ap nonterminal_count grammar_is;
          start = ready.start ∙ ap (λ z. z.start) grammar_is;
          result = ready.result ∙ ap (λ z. z.result) grammar_is;
          carrying = subst (λ z. Carries sizes.carrying.0 z.carrying) grammar_is held;
        };
        counts = record {
          inherits = λ n l. inherited_are n (subst (λ z. n < nonterminal_count z) (sym grammar_is) l) ∙ ap (λ z. inh z (nonterminal n)) grammar_is;
          synthesizes = λ n l. synthesized_are n (subst (λ z. n < nonterminal_count z) (sym grammar_is) l) ∙ ap (λ z. syn z (nonterminal n)) grammar_is;
        };
        lengths = (ready.first, ready.second, w.kept, w.kept_offsets);
      }
        where
          inherited_are : (n : ℕ) → n < nonterminal_count g → get_or inherited n 0 ≡ inh g (nonterminal n)
          inherited_are n l = ap (λ z. z.inherited) (counts_are n l)

          synthesized_are : (n : ℕ) → n < nonterminal_count g → get_or synthesized n 0 ≡ syn g (nonterminal n)
          synthesized_are n l = ap (λ z. z.synthesized) (counts_are n l)

  pub answer_whole : length t ≤ at → (p ≡ 0 → ⊥) → AnswersFrom t from sizes (Ok counted) inherited synthesized rows offsets
  answer_whole ended some ws held u h =
      let f = w.found ws held in
      outline ws held f u (h ∙ reached_end t from sizes.nonterminals sizes.carrying.0 inherited synthesized rows offsets p at r c w ready.nonterminals ended ws f some)
