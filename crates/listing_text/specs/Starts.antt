-- The cursor before a production's first line, and which cursors stand inside a production.
use Rattle.std.specs.Prelude.{ℕ, suc, ◌+◌, ◌*◌, ◌≤◌, ◌<◌, ◌≡◌, refl, Bool, true, false, not, List, [], ◌∷◌, ◌++◌, length, get_or, drop, ltb}
use Rattle.std.proofs.Math.Decide.{dec_lt}
use Rattle.std.proofs.Common.{arith, sym, ap, ap₂, ◌∙◌, append_assoc, lt-ltb, le-ltb, le-leb, drop_of_length-le, drop-cons}
use Rattle.meaning.specs.Limits.{area_length, symbols_limit}
use Rattle.meaning.specs.Base.{cons_if, is_empty}
use Rattle.meaning.specs.Grammar.{Symbol, Production, Grammar, added_for, production_at, whole_production}
use Rattle.meaning.specs.Rules.{WellFormed}
use Rattle.meaning.specs.Scheme.{Instruction, add, evaluate, expect, test, remove, entry_tests, tests_after, inherited_rules, synthesized_rules, removed, symbols_scheme, scheme}
use Rattle.meaning.specs.Program.{scheme_words}
use Rattle.meaning.specs.Listing.{Text, production_lines, lines_from}
use Rattle.theory_base.specs.WellFormed.{listed_at}
use Rattle.theory_program.specs.WordsStand.{stands_at}
use Rattle.theory_program.specs.Code.{conditions_length}
use Rattle.theory_program.specs.Addresses.{Begins, record_address, entry_address, entry_at, scheme_at_lem, expects_scheme}
use Rattle.theory_program.specs.Records.{segment_words_lem, record_words_lem}
use Rattle.theory_program.specs.Proper.{production_in, scheme_proper, entry_proper}
use Rattle.theory_program.specs.Sizes.{program_most, body_within}
use Rattle.listing_text.specs.declared.Cursor.{Cursor}
use Rattle.listing_text.specs.Lines.{conditions_of, code_lines, production_lines_lem}
use Rattle.listing_text.specs.Pending.{Items, conditions, Ends, symbols, Inside, Pending, none, some}
use Rattle.listing_text.specs.Cursors.{word_at, record_word, start_of, inside_of}

-- ---- every scheme ends with its remove

ends_if : (b : Bool) (i : Instruction) (is : List Instruction) → (Ends is → Ends (i ∷ is)) → Ends is → Ends (cons_if b i is)
ends_if true i is f h = f h
ends_if false i is f h = h

module _ (g : Grammar) (p : Production) where
  ends_symbols : (k : ℕ) (xs : List Symbol) (rest : List Instruction) → Ends rest → Ends (symbols_scheme g p k xs rest)
  ends_symbols k [] rest h = h
  ends_symbols k (x ∷ xs) rest h =
      let rules = inherited_rules g p k in
      let tests = tests_after g p k in
      let behind = cons_if (not (is_empty tests)) (test tests) (symbols_scheme g p (suc k) xs rest) in
      ends_if (ltb 0 (added_for g x)) (add (added_for g x)) (cons_if (not (is_empty rules)) (evaluate rules) (expect x ∷ behind)) (λ e. e)
      (ends_if (not (is_empty rules)) (evaluate rules) (expect x ∷ behind) (λ e. e)
      (ends_if (not (is_empty tests)) (test tests) (symbols_scheme g p (suc k) xs rest) (λ e. e)
      (ends_symbols (suc k) xs rest h)))

  ends_scheme : Ends (scheme g p)
  ends_scheme =
      let rules = synthesized_rules g p in
      let last = remove (removed g p) ∷ [] in
      ends_symbols 1 p.right (cons_if (not (is_empty rules)) (evaluate rules) last) (ends_if (not (is_empty rules)) (evaluate rules) last (λ e. e) refl)

-- at least its word
ends_words : (is : List Instruction) → Ends is → 1 ≤ length (scheme_words is)
ends_words [] h = absurd h
ends_words (add m ∷ is) h = omega arith
ends_words (evaluate rs ∷ is) h = omega arith
ends_words (expect x ∷ is) h = omega arith
ends_words (test cs ∷ is) h = omega arith
ends_words (remove m ∷ is) h = omega arith

module _ {g : Grammar} {ws : List ℕ} (w : WellFormed g) (b : Begins g ws) where
  record_word_lem : (i k : ℕ) → record_word ws i k ≡ get_or ws (record_address g i + k) 0
  record_word_lem i k = ap (λ a. get_or ws (a + 8 * i + k) 0) (segment_words_lem b).records

  pub symbols_word : (c : Cursor) → c.production < length g.productions → record_word ws c.production 7 ≡ symbols g c
  symbols_word c l = record_word_lem c.production 7 ∙ (record_words_lem b w c.production l).symbols

  -- ---- inside

  pub inside_some : {c : Cursor} {items : Items} {is : List Instruction} {ls : List Text} → Inside g ws c items is ls → inside_of ws c ≡ true
  inside_some {c} {items} {is} h =
      let few = (w.each (production_at g c.production) (production_in g w c.production h.unread.listed)).short in
      rw (lt-ltb c.production (word_at ws 6) (omega (arith, h.unread.listed, (segment_words_lem b).productions)), lt-ltb c.at area_length (omega (arith, h.fits, ends_words is h.unread.ends)), le-leb c.passed symbols_limit (omega (arith, h.unread.passed)))

  pub inside_none : (c : Cursor) → c.production ≡ length g.productions → inside_of ws c ≡ false
  inside_none c e = rw (le-ltb c.production (word_at ws 6) (omega (arith, (segment_words_lem b).productions)))

  -- ---- starts

  module _ (i : ℕ) (l : i < length g.productions) where
    abbrev p : Production
    p = production_at g i

    start_lines : lines_from g i (drop i g.productions) ≡ conditions_of i 0 (entry_tests g p) ++ (code_lines i (length p.right) 0 (scheme g p) ++ lines_from g (suc i) (drop (suc i) g.productions))
    start_lines =
        let rest = lines_from g (suc i) (drop (suc i) g.productions) in
        ap (lines_from g i) (drop-cons g.productions i (whole_production g) l)
        ∙ (ap (λ q. production_lines g i q ++ rest) (sym (listed_at g w i l))
        ∙ (ap (λ t. t ++ rest) (production_lines_lem g i p)
        ∙ append_assoc (conditions_of i 0 (entry_tests g p)) (code_lines i (length p.right) 0 (scheme g p)) rest))

    start_inside : Inside g ws (start_of ws i) (conditions (entry_tests g p)) (scheme g p) (lines_from g i (drop i g.productions))
    start_inside =
        let r = record_words_lem b w i l in
        let listed = production_in g w i l in
        let at : record_word ws i 4 + record_word ws i 7 ≡ entry_address g i = ap₂ ◌+◌ (record_word_lem i 4 ∙ r.body) (record_word_lem i 7 ∙ r.symbols) in
        let long = conditions_length (entry_tests g p) in
        record {
          unread = record { listed = l; proper = scheme_proper g w p listed; passed = omega (arith, expects_scheme g p); ends = ends_scheme g p };
          kind = refl;
          count = record_word_lem i 5 ∙ r.tests;
          here = record { words = stands_at _ (sym at) (entry_at b w i l).words };
          behind = record { words = stands_at _ (omega arith) (scheme_at_lem b w i l).words };
          proper_items = entry_proper g w p listed;
          fits = omega (arith, body_within g w i l, program_most g w);
          lines = start_lines;
        }

  pub pending_start : (i : ℕ) → i ≤ length g.productions → Pending g ws (start_of ws i) (lines_from g i (drop i g.productions))
  pending_start i m = go (dec_lt i (length g.productions))
    where
      go : Dec (i < length g.productions) → Pending g ws (start_of ws i) (lines_from g i (drop i g.productions))
      go (yes l) = some (conditions (entry_tests g (production_at g i))) (scheme g (production_at g i)) (start_inside i l)
      go (no l) = none (omega arith) (ap (lines_from g i) (drop_of_length-le g.productions {i = i} (omega arith)))
