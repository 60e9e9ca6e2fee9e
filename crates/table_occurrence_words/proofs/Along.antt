-- The walk along a right side, one symbol after the other.
use Prim.Native.Nat.{ℕ, ◌+◌, ◌-◌, ◌≤◌, ◌<◌}
use mathlib.Core.Path.{◌≡◌, refl, sym, ◌∙◌, ap, subst}
use mathlib.Core.Bool.{false, true≢false}
use mathlib.Core.List.{List, map}
use native.Mathlib.Omega.{arith}
use lib.Bits.{bit_or}
use lib.Dec.{T}
use lib.ListN.{length, set, drop, length-set}
use Rattle.std.specs.Prelude.{Option, Some, None}
use Rattle.nonterminal_set.specs.declared.NonterminalSet.{NonterminalSet}
use Rattle.meaning.specs.Limits.{productions_limit}
use Rattle.meaning.specs.Table.{byte, symbol_of}
use Rattle.table_fields.specs.Judge.{symbol_known, symbols_known}
use Rattle.table_fields.proofs.Walks.{all_pass, all_fail, all_none}
use Rattle.outline.specs.Images.{row_start}
use Rattle.outline.specs.Counts.{count_at_value, synthesized_at}
use Rattle.set_words.specs.Views.{members, symbol_bit}
use Rattle.set_words.specs.Growth.{or_right}
use Rattle.set_words.specs.Reaching.{Gathered, gathered_start, gathered_next, gathered_end}
use Rattle.table_rows.specs.RowWritten.{symbol_byte, Copied}
use Rattle.table_rows.proofs.Placing.{copying_at, symbols_from, symbols_none, gathered_again, symbol_byte_lem}
use Rattle.table_occurrences.specs.OccurrenceBits.{input_word, other_word, Filled}
use Rattle.table_occurrences.proofs.Laws.{Filling, filling_more, filled}
use Rattle.table_occurrence_words.specs.Placed.{input_at, other_at, FoundAs, RightPlaced}

-- words for a left side alone are words below position 1
pub filling_first : (f : ℕ → ℕ) (none : ℕ) (words : List ℕ) → Filled f 0 none words → Filling f none 1 words
filling_first f none words w = record { each = λ j l. w.each j (omega arith); beyond = λ j l m. w.beyond j (omega arith) m; kept = w.kept }

module _ (rows₀ : List ℕ) (p : ℕ) (b : List ℕ) (terminals nonterminals carrying : ℕ) (inherited synthesized : List ℕ) where
  -- the bytes before k are walked, the last of them with these words
  pub record Along (rows inputs settled : List ℕ) (word symbol bit input other k : ℕ) : Type 0 where
    pub least : 2 ≤ k
    pub most : k ≤ length b
    pub copied : Copied rows₀ p b rows k
    pub gathered : Gathered symbol_bit (map symbol_of (drop 2 b)) word (map symbol_of (drop k b))
    pub known : symbols_known terminals nonterminals b 2 ≡ symbols_known terminals nonterminals b k
    pub filling : Filling (input_at carrying inherited synthesized b) 0 (k - 1) inputs
    pub filling_others : Filling (other_at carrying inherited synthesized b) 65535 (k - 1) settled
    pub last : symbol < 256 → FoundAs terminals nonterminals carrying inherited synthesized symbol bit input other
    pub has : symbol < 256 → (n : ℕ) → T (symbol_bit n (symbol_of symbol)) → T (members word n)

  pub along_start :
      (rows inputs settled : List ℕ) (symbol bit input other : ℕ) → Copied rows₀ p b rows 2 → 2 ≤ length b → Filled (input_at carrying inherited synthesized b) 0 0 inputs
      → Filled (other_at carrying inherited synthesized b) 0 65535 settled → symbol ≡ 256 → Along rows inputs settled 0 symbol bit input other 2
  along_start rows inputs settled symbol bit input other c l f g e =
      record {
        least = omega arith;
        most = l;
        copied = c;
        gathered = gathered_start _ _;
        known = refl;
        filling = filling_first _ _ _ f;
        filling_others = filling_first _ _ _ g;
        last = λ m. absurd (omega arith);
        has = λ m. absurd (omega arith);
      }

  module _ (few : p < productions_limit) (short : length b ≤ 14) (rows inputs settled : List ℕ) (word symbol bit input other k : ℕ) (a : Along rows inputs settled word symbol bit input other k) (more : k < length b) where
    byte_here : byte b k ≡ symbol_byte b (k - 1)
    byte_here = ap (byte b) {x = k} {y = k - 1 + 1} (omega (arith, a.least)) ∙ symbol_byte_lem b (k - 1) (omega (arith, a.least))

    after : k - 1 + 1 ≡ k + 1 - 1
    after = omega (arith, a.least)

    -- the words of a symbol that was found, where it stands
    module _ (s bit' input' other' : ℕ) (found : FoundAs terminals nonterminals carrying inherited synthesized s bit' input' other') (e : s ≡ byte b k) where
      input_here : input' ≡ input_at carrying inherited synthesized b (k - 1)
      input_here = found.inputs (k - 1) (omega (arith, a.least)) ∙ ap (λ (x : ℕ). input_word (k - 1) (count_at_value inherited x) (synthesized_at carrying synthesized x)) (e ∙ byte_here)

      other_here : other' ≡ other_at carrying inherited synthesized b (k - 1)
      other_here = found.others (k - 1) (omega (arith, a.least)) ∙ ap (λ (x : ℕ). other_word (k - 1) (count_at_value inherited x) (synthesized_at carrying synthesized x)) (e ∙ byte_here)

      filling_on : (inputs' : List ℕ) → inputs' ≡ set inputs (k - 1) input' → Filling (input_at carrying inherited synthesized b) 0 (k + 1 - 1) inputs'
      filling_on inputs' q = subst (λ (i : ℕ). Filling (input_at carrying inherited synthesized b) 0 i inputs') after (rw q (filling_more _ _ _ _ a.filling (omega arith) _ input_here))

      others_on : (settled' : List ℕ) → settled' ≡ set settled (k - 1) other' → Filling (other_at carrying inherited synthesized b) 65535 (k + 1 - 1) settled'
      others_on settled' q = subst (λ (i : ℕ). Filling (other_at carrying inherited synthesized b) 65535 i settled') after (rw q (filling_more _ _ _ _ a.filling_others (omega arith) _ other_here))

      known_on : symbols_known terminals nonterminals b 2 ≡ symbols_known terminals nonterminals b (k + 1)
      known_on = a.known ∙ all_pass _ b k more (ap (symbol_known terminals nonterminals) (sym e) ∙ found.known)

    module _ (start : ℕ) (is-start : start ≡ row_start p) where
      row_on : Copied rows₀ p b (set rows (start + k) (byte b k)) (k + 1)
      row_on = copying_at _ _ _ _ _ _ is-start a.copied (omega arith)

      -- the symbol before it once more
      pub along_again :
          (s : ℕ) (inputs' settled' : List ℕ) → s ≡ byte b k → s < 256 → s ≡ symbol → inputs' ≡ set inputs (k - 1) input → settled' ≡ set settled (k - 1) other
          → Along (set rows (start + k) (byte b k)) inputs' settled' word symbol bit input other (k + 1)
      along_again s inputs' settled' is-s small same q r =
          let in_range_lem : symbol < 256 = omega arith in
          let found = a.last in_range_lem in
          let e : symbol ≡ byte b k = sym same ∙ is-s in
          record {
            least = omega (arith, a.least);
            most = omega arith;
            copied = row_on;
            gathered = gathered_again _ _ _ _ _ a.gathered (symbols_from b k more) (λ n t. a.has in_range_lem n (rw e t));
            known = known_on symbol bit input other found e;
            filling = filling_on symbol bit input other found e inputs' q;
            filling_others = others_on symbol bit input other found e settled' r;
            last = a.last;
            has = a.has;
          }

      -- another one
      pub along_next :
          (s symbol' bit' input' other' word' : ℕ) (inputs' settled' : List ℕ) → s ≡ byte b k → FoundAs terminals nonterminals carrying inherited synthesized s bit' input' other' → symbol' ≡ s → word' ≡ bit_or word bit'
          → inputs' ≡ set inputs (k - 1) input' → settled' ≡ set settled (k - 1) other' → Along (set rows (start + k) (byte b k)) inputs' settled' word' symbol' bit' input' other' (k + 1)
      along_next s symbol' bit' input' other' word' inputs' settled' e found same is_IsWord q r =
          record {
            least = omega (arith, a.least);
            most = omega arith;
            copied = row_on;
            gathered = rw is_IsWord (gathered_next _ _ _ _ _ _ _ a.gathered (symbols_from b k more) (rw e at found.bits));
            known = known_on s bit' input' other' found e;
            filling = filling_on s bit' input' other' found e inputs' q;
            filling_others = others_on s bit' input' other' found e settled' r;
            last = λ l. rw same found;
            has = λ l n t. rw is_IsWord (or_right word bit' n (rw (found.bits n) (rw same at t)));
          }

      -- one that is not known
      pub along_unknown :
          (s : ℕ) → s ≡ byte b k → symbol_known terminals nonterminals s ≡ false
          → RightPlaced rows₀ p b terminals nonterminals carrying inherited synthesized (set rows (start + k) (byte b k)) inputs settled None
      along_unknown s e not_known =
          record {
            kept = length-set rows (start + k) (byte b k) ∙ a.copied.kept;
            is_known = sym (a.known ∙ all_fail _ b k more (ap (symbol_known terminals nonterminals) (sym e) ∙ not_known));
            copied = λ q. absurd (true≢false (sym q));
            worded = tt;
            inputs_filled = λ q. absurd (true≢false (sym q));
            others_filled = λ q. absurd (true≢false (sym q));
          }

  pub along_end :
      (rows inputs settled : List ℕ) (word : NonterminalSet) (symbol bit input other k : ℕ) → Along rows inputs settled word.0 symbol bit input other k → length b ≤ k
      → RightPlaced rows₀ p b terminals nonterminals carrying inherited synthesized rows inputs settled (Some word)
  along_end rows inputs settled word symbol bit input other k a l =
      let e : k ≡ length b = omega (arith, a.most) in
      record {
        kept = a.copied.kept;
        is_known = sym (a.known ∙ all_none _ b k l);
        copied = λ q. subst (λ (i : ℕ). Copied rows₀ p b rows i) e a.copied;
        worded = gathered_end _ _ _ _ a.gathered (symbols_none b k l);
        inputs_filled = λ q width w. filled _ _ _ _ _ a.filling (omega arith);
        others_filled = λ q width w. filled _ _ _ _ _ a.filling_others (omega arith);
      }

-- where the row's first two bytes were copied before
pub placed_from :
    (rows₀ rows₁ : List ℕ) (p : ℕ) (b : List ℕ) (terminals nonterminals carrying : ℕ) (inherited synthesized rows inputs settled : List ℕ) (right : Option NonterminalSet) → Copied rows₀ p b rows₁ 2
    → RightPlaced rows₁ p b terminals nonterminals carrying inherited synthesized rows inputs settled right
    → RightPlaced rows₀ p b terminals nonterminals carrying inherited synthesized rows inputs settled right
placed_from rows₀ rows₁ p b terminals nonterminals carrying inherited synthesized rows inputs settled right two r =
    record {
      kept = r.kept;
      is_known = r.is_known;
      copied = λ q. let c = r.copied q in record { before = λ i h. c.before i h ∙ two.before i h; row = c.row; kept = c.kept };
      worded = r.worded;
      inputs_filled = r.inputs_filled;
      others_filled = r.others_filled;
    }
