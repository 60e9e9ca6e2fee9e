-- The fields of one production: its row, where its rules and conditions stand in the table, and what the outline says of both.
use Prim.Native.Nat.{ℕ, suc, ◌+◌, ◌-◌, ◌≤◌, ◌<◌}
use native.Mathlib.Omega.{arith}
use Rattle.std.proofs.Math.Decide.{dec_lt}
use Rattle.std.specs.Prelude.{◌≡◌, refl, cond, List, ◌++◌, map, reverse, length, get_or, take, drop, ltb}
use Rattle.std.proofs.Common.{sym, ap, ◌∙◌, subst, length-append, length-drop, get_or-take, get_or-drop, take_at, drop_at, drop-drop, lt-ltb, le-ltb}
use Rattle.std.proofs.lemmas.List.{length-map, length-reverse}
use Rattle.std.proofs.Math.ListN.{get_or-eq_default}
use Rattle.meaning.specs.Grammar.{Production, production_at}
use Rattle.meaning.specs.Rules.{WellFormedProduction}
use Rattle.meaning.specs.Layout.{Bytes, field, symbol_byte, production_bytes, RulesAndConditions}
use Rattle.meaning.specs.Table.{byte, Entry, no_entry, production_of, symbol_of}
use Rattle.theory_base.specs.Members.{map_at}
use Rattle.theory_base.specs.WellFormed.{well_formed_at}
use Rattle.theory_table.specs.Places.{read_places}
use Rattle.theory_table.specs.ReadLaidOut.{read_stretch}
use Rattle.theory_table.specs.Reading.{table_reads}
use Rattle.theory_table.specs.Stretches.{StretchAt}
use Rattle.outline.specs.Images.{row_start, row_at, size_at, size_is, symbol_is}
use Rattle.outline.specs.Outline.{state_in, grammar_in, CountsOf, Productions, entries_are}
use Rattle.program_body_words.specs.OfProduction.{OfProduction}

-- where its stretch of the table ends
unfoldable pub stretch_end : List ℕ → List ℕ → ℕ → ℕ → ℕ
stretch_end table offsets count p = cond (ltb (p + 1) count) (get_or offsets (p + 1) 0) (length table)

-- where its rules and conditions begin
abbrev pub fields_from : List ℕ → List ℕ → ℕ → ℕ
fields_from rows offsets p = get_or offsets p 0 + 5 + size_at rows p

-- the bytes of its rules and conditions
abbrev pub fields_at : List ℕ → ℕ → ℕ → List ℕ
fields_at table from to = take (to - from) (drop from table)

module _ {table rows offsets : List ℕ} {count : ℕ} (x : Productions table rows offsets count) (bytes : Bytes table) (p : ℕ) (l : p < count) where
  abbrev pub es : List Entry
  es = reverse (state_in table).entries

  abbrev pub e : Entry
  e = get_or es p no_entry

  abbrev pub pr : Production
  pr = production_at (grammar_in table) p

  pub listed : p < length (state_in table).entries
  listed = omega (arith, entries_are x)

  pub is_production_lem : pr ≡ production_of e
  unfolding grammar_in
  is_production_lem = (read_places table (state_in table) x.is_read).is_production p listed

  abbrev pub stretch : StretchAt table e (get_or (map (λ d. d.offset) es) (suc p) (length table))
  stretch = read_stretch table (state_in table) bytes x.is_read p listed

  -- the next production's offset, or the table's end
  end_is : get_or (map (λ d. d.offset) es) (suc p) (length table) ≡ stretch_end table offsets count p
  unfolding stretch_end
  end_is = go (dec_lt (p + 1) count)
    where
      next : p + 1 ≡ suc p
      next = omega arith

      go : Dec (p + 1 < count) → get_or (map (λ d. d.offset) es) (suc p) (length table) ≡ cond (ltb (p + 1) count) (get_or offsets (p + 1) 0) (length table)
      go (yes m) = rw (lt-ltb (p + 1) count m) (map_at (λ d. d.offset) es (suc p) no_entry (length table) (omega (arith, entries_are x, length-reverse (state_in table).entries)) ∙ (ap (λ k. (get_or es k no_entry).offset) (sym next) ∙ sym (x.offset (p + 1) m)))
      go (no m) = rw (le-ltb (p + 1) count (omega arith)) (get_or-eq_default (map (λ d. d.offset) es) (length table) {n = suc p} (omega (arith, entries_are x, length-map es (λ d. d.offset), length-reverse (state_in table).entries)))

  head_length : length (field 3 (production_bytes (production_of e))) ≡ 5 + length pr.right
  head_length = omega (arith, length-map e.right symbol_byte, ap (λ q. length q.right) is_production_lem)

  from_is : fields_from rows offsets p ≡ e.offset + length (field 3 (production_bytes (production_of e)))
  from_is = omega (arith, x.offset p l, size_is x.rows_of p l, head_length)

  pub to_is : stretch_end table offsets count p ≡ fields_from rows offsets p + length stretch.body
  to_is = omega (arith, end_is, stretch.is_end, from_is, length-append (field 3 (production_bytes (production_of e))) stretch.body)

  module _ (from to : ℕ) (ef : from ≡ fields_from rows offsets p) (et : to ≡ stretch_end table offsets count p) where
    behind : drop from table ≡ stretch.body ++ stretch.rest
    behind =
        ap (λ n. drop n table) (ef ∙ from_is)
        ∙ (sym (drop-drop (length (field 3 (production_bytes (production_of e)))) e.offset table)
        ∙ (ap (drop (length (field 3 (production_bytes (production_of e))))) stretch.is_here ∙ drop_at (field 3 (production_bytes (production_of e))) (stretch.body ++ stretch.rest) _ refl))

    pub fields_are : fields_at table from to ≡ stretch.body
    fields_are = ap (take (to - from)) behind ∙ take_at stretch.body stretch.rest (to - from) (omega (arith, ef, et, to_is))

    pub fields_place : (from ≤ to) × (to ≤ length table)
    fields_place = (omega (arith, ef, et, to_is), omega (arith, et, to_is, from_is, head_length, ap length stretch.is_here, length-append (field 3 (production_bytes (production_of e))) (stretch.body ++ stretch.rest), length-append stretch.body stretch.rest, length-drop e.offset table))

    -- they are those of its rules and conditions
    pub fields_own : RulesAndConditions pr.rules pr.conditions (fields_at table from to)
    fields_own = subst (λ q. RulesAndConditions q.rules q.conditions (fields_at table from to)) (sym is_production_lem) (subst (λ z. RulesAndConditions (production_of e).rules (production_of e).conditions z) (sym fields_are) stretch.own)

    pub row_byte : (i j : ℕ) → j ≡ row_start p + i → i < 16 → byte (row_at rows p) i ≡ get_or rows j 0
    row_byte i j q m = get_or-take 16 (drop (row_start p) rows) i 0 m ∙ (get_or-drop (row_start p) rows i 0 ∙ ap (λ k. get_or rows k 0) (sym q))

    unfoldable pub given_at : {inherited synthesized : List ℕ} → CountsOf inherited synthesized (grammar_in table) → OfProduction (row_at rows p) (fields_at table from to) inherited synthesized
    given_at counts = record {
      grammar = grammar_in table;
      production = pr;
      well_formed = x.rows_of.sound;
      of_grammar = fits;
      left = row_byte 0 (row_start p) (omega arith) (omega arith) ∙ x.rows_of.left p l;
      size = row_byte 1 (row_start p + 1) (omega arith) (omega arith) ∙ size_is x.rows_of p l;
      symbols = λ k m. ap symbol_of (row_byte (k + 2) (row_start p + 2 + k) (omega arith) (omega (arith, fits.short))) ∙ symbol_is x.rows_of p l k m;
      counts = counts;
      own = fields_own;
      short = omega (arith, ap length fields_are, ef, et, fields_place.1, to_is, (table_reads table (state_in table) x.is_read).0);
    }
      where
        fits : WellFormedProduction (grammar_in table) pr
        fits = well_formed_at (grammar_in table) x.rows_of.sound p (omega (arith, x.rows_of.counted))
