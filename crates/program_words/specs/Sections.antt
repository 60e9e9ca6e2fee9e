-- The loops over the productions: the directory, then the records and bodies.
use Rattle.std.specs.Prelude.{ℕ, suc, ◌+◌, ◌-◌, ◌*◌, ◌/◌, ◌%◌, ◌^◌, ◌≤◌, ◌<◌, ◌≡◌, Bool, List, [], ◌∷◌, ◌++◌, get_or, drop, eqb}
use native.Mathlib.Omega.{arith}
use Rattle.std.proofs.Math.Path.{refl, sym, subst}
use Rattle.std.proofs.Common.{ap, ap₂, ◌∙◌, append_assoc, length-append}
use Rattle.std.proofs.Math.Bool.{false}
use Rattle.std.proofs.Math.ListN.{length, length-drop, length-take}
use Rattle.meaning.specs.Grammar.{Production, Grammar, nonterminal_count, production_at, whole_production}
use Rattle.meaning.specs.Rules.{WellFormed}
use Rattle.meaning.specs.PublicCalls.{written}
use Rattle.meaning.specs.Scheme.{entry_tests}
use Rattle.meaning.specs.Sets.{has, starts}
use Rattle.meaning.specs.Layout.{Bytes}
use Rattle.meaning.specs.Limits.{area_length, nonterminals_limit, productions_limit, symbols_limit}
use Rattle.meaning.specs.Program.{first_of, entry_of, set_bits, scheme_offset, body_address, record_words, wait_row, records_from, bodies_from, body_size, waits, directory, records_address, waits_address, bodies_address, segment_words, program_of}
use Rattle.theory_base.specs.WellFormed.{listed_at, well_formed_at}
use Rattle.theory_program.specs.WordsStand.{stands_word}
use Rattle.theory_program.specs.SmallWords.{scheme_below}
use Rattle.theory_program.specs.Addresses.{record_address, record_in, records_length, body_length, bodies_length, wait_row_length, waits_length, directory_length, short_productions}
use Rattle.theory_program.specs.Code.{conditions_length}
use Rattle.theory_program.specs.Proper.{production_in, conditions_most}
use Rattle.theory_program.specs.Sizes.{program_length, program_fits}
use Rattle.program_block_words.specs.Patch.{patch, patch_none, patch_length, patch_before, patch_inside, patch_append, patch_swap, Wrote, wrote_as, wrote_then, wrote_ahead, wrote_length, patch_written}
use Rattle.program_block_words.specs.Chains.{Listing, Found}
use Rattle.program_body_words.specs.OfProduction.{OfProduction, listed_of, BodyFits, BodyWrote}
use Rattle.program_body_words.specs.Laws.{patch_beside}
use Rattle.program_body_words.specs.Symbols.{tests_count}
use Rattle.table.specs.CarriedSet.{carried_count}
use Rattle.outline.specs.declared.Sizes.{Sizes}
use Rattle.outline.specs.Images.{ImageOf, HasRow, row_at, left_at, size_at, size_is, image_of}
use Rattle.outline.specs.Outline.{grammar_in, Productions, Outlined}
use Rattle.program_words.specs.Most.{rules_most, fields_long}
use Rattle.program_words.specs.Fields.{stretch_end, fields_from, fields_at, fields_place, given_at}
use Rattle.program_words.specs.Directory.{Alternatives, Recorded, entry_at, entry_recorded, recorded_kept, start_bit, zeros, Marked, Filled, filled_start, filled_turn, filled_end}
use Rattle.program_words.specs.Records.{two_words, same_left, NextOf, Growing, growing_start, growing_as, growing_turn, growing_end, rest_records, rest_bodies, record_at, body_at, records_turn, bodies_turn, records_end, bodies_end}
use Rattle.program_words.specs.Waits.{wait_from, wait_at, rest_waits, waits_turn, waits_end}
use Rattle.program_words.specs.Built.{well_formed_lem, count_is, LinksFit, RecordFits, ProductionFits, ProductionWrote, ProductionsWrote}

-- ---- the directory

module _ (rows sets : List ℕ) (nonterminals count : ℕ) (old : List ℕ) where
  -- the productions from p on stand in the directory
  pub record DirectoryGo (p : ℕ) (area : List ℕ) : Type 0 where
    pub go : (x : Alternatives rows sets nonterminals count) → Recorded x.grammar old → Filled x.grammar old area p

module _ {rows sets : List ℕ} {nonterminals count : ℕ} (x : Alternatives rows sets nonterminals count) where
  pub nonterminals_few : nonterminals ≤ nonterminals_limit
  nonterminals_few = omega (arith, x.is_nonterminals, x.rows_of.sound.nonterminals.1)

module _ {rows : List ℕ} {count : ℕ} {g : Grammar} (x : ImageOf rows count g) where
  pub count_few : count ≤ productions_limit
  count_few = (image_of x).few

  pub left_few : (p b : ℕ) → p < count → b ≡ left_at rows p → b < nonterminals_limit
  left_few p b l e = omega (arith, e, (image_of x).lefts p l)

module _ {rows sets : List ℕ} {nonterminals count : ℕ} {old : List ℕ} (long : area_length ≤ length old) where
  pub directory_start : {area : List ℕ} → area ≡ patch old 9 (zeros (9 + 64 * nonterminals - 9)) → DirectoryGo rows sets nonterminals count old count area
  directory_start e = record {
    go = λ x r.
        let same : 9 + 64 * nonterminals - 9 ≡ 64 * nonterminal_count x.grammar = omega (arith, x.is_nonterminals) in
        subst (λ z. Filled x.grammar old z count) (sym (e ∙ ap (λ z. patch old 9 (zeros z)) same)) (filled_start x.grammar old (omega (arith, long, x.rows_of.sound.nonterminals.1)) count (omega (arith, x.rows_of.counted)));
  }

  module _ {p : ℕ} {area : List ℕ} (d : DirectoryGo rows sets nonterminals count old p area) where
    module _ (x : Alternatives rows sets nonterminals count) (r : Recorded x.grammar old) where
      pub directory_size : length area ≡ length old
      directory_size = (d.go x r).size

      -- what is said of the production at hand
      pub directory_entry : 0 < p → p ≤ count → entry_at area (9 + 64 * nonterminals + 8 * (p - 1)) p ≡ entry_of x.grammar p
      directory_entry l m =
          let at : 9 + 64 * nonterminals + 8 * (p - 1) ≡ record_address x.grammar (p - 1) = omega (arith, x.is_nonterminals) in
          let e : suc (p - 1) ≡ p = omega arith in
          subst (λ k. entry_at area (9 + 64 * nonterminals + 8 * (p - 1)) k ≡ entry_of x.grammar k) e
          (ap (λ a. entry_at area a (suc (p - 1))) at ∙ entry_recorded x.grammar area (recorded_kept (d.go x r) r) (p - 1) (omega (arith, x.rows_of.counted)))

      pub directory_scheme_lem : 0 < p → p ≤ count → get_or area (9 + 64 * nonterminals + 8 * (p - 1) + 6) 0 ≤ area_length
      directory_scheme_lem l m =
          let at : 9 + 64 * nonterminals + 8 * (p - 1) + 6 ≡ record_address x.grammar (p - 1) + 6 = omega (arith, x.is_nonterminals) in
          let listed : p - 1 < length x.grammar.productions = omega (arith, x.rows_of.counted) in
          omega (arith, ap (λ a. get_or area a 0) at, (recorded_kept (d.go x r) r (p - 1) listed).1, scheme_below x.grammar x.rows_of.sound (p - 1) listed)

    pub directory_turn : {new : List ℕ} {b s n : ℕ} → 0 < p → p ≤ count → b ≡ left_at rows (p - 1) → s ≡ get_or sets (p - 1) 0 → n ≡ entry_at area (9 + 64 * nonterminals + 8 * (p - 1)) p → Marked area new (9 + 64 * b) s n 64 → DirectoryGo rows sets nonterminals count old (p - 1) new
    directory_turn {new} {b} {s} {n} l m eb es en k = record {
      go = λ x r.
          let e : p ≡ p - 1 + 1 = omega arith in
          let said : n ≡ entry_of x.grammar (p - 1 + 1) = en ∙ (directory_entry x r l m ∙ ap (entry_of x.grammar) e) in
          filled_turn x (p - 1) b (omega arith) eb (subst (λ z. Filled x.grammar old area z) e (d.go x r)) (subst (λ z. Marked area new (9 + 64 * b) (get_or sets (p - 1) 0) z 64) said (subst (λ z. Marked area new (9 + 64 * b) z n 64) es k));
    }

    pub directory_end : p ≡ 0 → (x : Alternatives rows sets nonterminals count) → Recorded x.grammar old → Wrote old area 9 (9 + 64 * nonterminals) (directory x.grammar)
    directory_end z x r =
        let e : 9 + 64 * nonterminal_count x.grammar ≡ 9 + 64 * nonterminals = omega (arith, x.is_nonterminals) in
        subst (λ n. Wrote old area 9 n (directory x.grammar)) e (filled_end x.grammar old (omega (arith, long, x.rows_of.sound.nonterminals.1)) (subst (λ n. Filled x.grammar old area n) z (d.go x r)))

-- ---- a record

abbrev record_by : ℕ → ℕ → ℕ → ℕ → ℕ → ℕ → ℕ → ℕ → List ℕ
record_by left next low high body tests scheme size = left ∷ next ∷ low ∷ high ∷ body ∷ tests ∷ scheme ∷ size ∷ []

module _ {rows sets : List ℕ} {p body entries next : ℕ} {area : List ℕ} {at : ℕ} (x : RecordFits rows sets p body entries next area at) where
  abbrev g : Grammar
  g = x.grammar

  abbrev pr : Production
  pr = production_at g p

  right_long : size_at rows p ≡ length pr.right
  right_long = size_is x.rows_of p x.here

  pub scheme_small : (size : ℕ) → size ≡ size_at rows p → body + size + 3 * entries ≤ area_length
  scheme_small size e = omega (arith, e, right_long, x.tests, x.behind, conditions_length (entry_tests g pr))

  pub record_written : {mid new : List ℕ} {half end : ℕ} {left size set : ℕ} → left ≡ left_at rows p → size ≡ size_at rows p → set ≡ get_or sets p 0 → set < 18446744073709551616
      → Wrote area mid at half (left ∷ next ∷ set % 4294967296 ∷ set / 4294967296 ∷ []) → Wrote mid new half end (body ∷ entries ∷ (body + size + 3 * entries) ∷ size ∷ []) → Wrote area new at end (record_at g p body)
  record_written {left = left} {size = size} {set = set} el es ew small v w = wrote_as same (wrote_then v w)
    where
      row_left : left_at rows p ≡ pr.left
      row_left = x.rows_of.left p x.here

      left_is : left ≡ pr.left
      left_is = el ∙ row_left

      more : p + 1 ≡ suc p
      more = omega arith

      next_is : next ≡ first_of (same_left pr.left) (suc p) (drop (suc p) g.productions)
      next_is = x.following g x.rows_of ∙ ap₂ (λ y z. first_of (same_left y) z (drop z g.productions)) row_left more

      halves : (set % 4294967296 ≡ set_bits (starts g pr) 0 1 32) × (set / 4294967296 ≡ set_bits (starts g pr) 32 1 32)
      halves = two_words (starts g pr) set small (λ u l. subst (λ z. ◌≡◌ {A = Bool} (eqb (z / 2 ^ u % 2) 1) (has (starts g pr) u)) (sym ew) (start_bit g x.count sets x.starting p u x.here l))

      size_here : size ≡ length pr.right
      size_here = es ∙ right_long

      scheme_is : body + size + 3 * entries ≡ body + scheme_offset g pr
      scheme_is = omega (arith, size_here, x.tests, conditions_length (entry_tests g pr))

      same : record_by left next (set % 4294967296) (set / 4294967296) body entries (body + size + 3 * entries) size ≡ record_at g p body
      same =
          ap₂ (λ a b. record_by a b (set % 4294967296) (set / 4294967296) body entries (body + size + 3 * entries) size) left_is next_is
          ∙ (ap₂ (λ a b. record_by pr.left (first_of (same_left pr.left) (suc p) (drop (suc p) g.productions)) a b body entries (body + size + 3 * entries) size) halves.0 halves.1
          ∙ (ap₂ (λ a b. record_by pr.left (first_of (same_left pr.left) (suc p) (drop (suc p) g.productions)) (set_bits (starts g pr) 0 1 32) (set_bits (starts g pr) 32 1 32) body a b size) x.tests scheme_is
          ∙ ap (λ a. record_by pr.left (first_of (same_left pr.left) (suc p) (drop (suc p) g.productions)) (set_bits (starts g pr) 0 1 32) (set_bits (starts g pr) 32 1 32) body (length (entry_tests g pr)) (body + scheme_offset g pr) a) size_here))

-- ---- one production

pub productions_few : {table : List ℕ} {sizes : Sizes} {inherited synthesized rows offsets sets : List ℕ} → Outlined table sizes inherited synthesized rows offsets sets → sizes.productions ≤ productions_limit
productions_few x = omega (arith, count_is x.outline, (well_formed_lem x.outline).productions.1)

module _ {table : List ℕ} {sizes : Sizes} {inherited synthesized rows offsets sets : List ℕ} {p : ℕ} {area : List ℕ} {at body : ℕ} (x : ProductionFits table sizes inherited synthesized rows offsets sets p area at body) (bytes : Bytes table) where
  abbrev gr : Grammar
  gr = grammar_in table

  abbrev pd : Production
  pd = production_at gr p

  abbrev listed : Productions table rows offsets sizes.productions
  listed = x.outlined.outline.productions

  pub row_inside : HasRow rows p
  row_inside = omega (arith, listed.rows_of.room, x.here)

  -- where its rules and conditions begin and end, and their bytes
  abbrev from : ℕ
  from = fields_from rows offsets p

  abbrev to : ℕ
  to = stretch_end table offsets sizes.productions p

  abbrev own : List ℕ
  own = fields_at table from to

  pub place : (from ≤ to) × (to ≤ length table)
  place = fields_place listed bytes p x.here from to refl refl

  abbrev here : OfProduction (row_at rows p) own inherited synthesized
  here = given_at listed bytes p x.here from to refl refl x.outlined.outline.counts

  own_listing : {nodes : ℕ} → LinksFit (length table) nodes → Listing own nodes
  unfolding given_at
  own_listing e =
      let w = well_formed_lem x.outlined.outline in
      let i = production_in gr w p (omega (arith, x.here, count_is x.outlined.outline)) in
      record {
        listed = listed_of here;
        short = here.short;
        few = e.1 _ (omega (arith, rules_most gr w pd i, conditions_most gr w pd i)) (omega (arith, fields_long here.own, length-take (to - from) (drop from table), length-drop from table));
        room = e.0;
      }

  module _ {fields : List ℕ} (is : fields ≡ own) {nodes : ℕ} (e : LinksFit (length table) nodes) where
    pub fields_listing : Listing fields nodes
    fields_listing = subst (λ z. Listing z nodes) (sym is) (own_listing e)

    -- the record
    module _ (marks links : List ℕ) (f : (y : Listing fields nodes) → Found fields links marks y.listed) {next : ℕ} (n : NextOf rows sizes.productions p next) where
      found : Found own links marks (listed_of here)
      unfolding given_at own_listing
      found = subst (λ z. (y : Listing z nodes) → Found z links marks y.listed) is f (own_listing e)

      entries_are : get_or marks 1 0 ≡ length (entry_tests gr pd)
      unfolding given_at
      entries_are = found.counts false 0 (omega arith) ∙ sym (tests_count gr pd 0)

      abbrev RecordFit : Type 0
      RecordFit = RecordFits rows sets p body (get_or marks 1 0) next area at

      pub record_fits : RecordFit
      record_fits = record {
        count = sizes.productions;
        grammar = gr;
        rows_of = listed.rows_of;
        starting = x.outlined.starting;
        here = x.here;
        tests = entries_are;
        following = n;
        behind = omega (arith, x.behind);
        room = omega (arith, x.low, x.long, x.behind);
        low = omega (arith, x.low, x.behind);
      }

      -- then the body
      module _ {mid : List ℕ} {end wait : ℕ} (w : (y : RecordFit) → Wrote area mid at end (record_at y.grammar p body)) (ew : wait ≡ wait_from sizes.nonterminals sizes.productions p) where
        recorded : Wrote area mid at (at + 8) (record_at gr p body)
        unfolding record_fits
        recorded = let v = w record_fits in record { memory = v.memory; address = refl }

        wait_is : wait ≡ wait_at gr p
        wait_is = omega (arith, ew, x.outlined.outline.numbers.nonterminals, count_is x.outlined.outline)

        abbrev BodyFit : List ℕ → Type 0
        BodyFit bs = BodyFits (row_at rows p) bs inherited synthesized sizes.carrying.0 marks links mid body wait

        own_fits : BodyFit own
        unfolding given_at
        own_fits = record {
          given = here;
          carried = carried_count sizes.carrying.0 gr x.outlined.outline.numbers.carrying;
          found = found;
          room = x.behind;
          long = omega (arith, x.long, wrote_length recorded);
          apart = omega (arith, wait_is, x.apart);
        }

        pub body_fits : BodyFit fields
        body_fits = subst BodyFit (sym is) own_fits

        row_written : {new : List ℕ} {after : ℕ} → ((y : BodyFit fields) → BodyWrote y new after) → ProductionWrote gr p area new at body after
        unfolding own_fits given_at
        row_written {new} {after} v =
            let u = subst (λ z. (y : BodyFit z) → BodyWrote y new after) is v in
            record { between = mid; recorded = recorded; bodied = subst (λ z. Wrote (patch mid z (wait_row gr pd)) new body after (body_at gr p body)) wait_is (u own_fits) }

        -- the row as it is lent
        abbrev BodyOf : List ℕ → ℕ → List ℕ → Type 0
        BodyOf new after z = (y : BodyFits z fields inherited synthesized sizes.carrying.0 marks links mid body wait) → BodyWrote y new after

        pub production_written : {row : List ℕ} → row ≡ row_at rows p → {new : List ℕ} {after : ℕ} → BodyOf new after row → ProductionWrote gr p area new at body after
        production_written same {new} {after} v = row_written (subst (BodyOf new after) same v)

-- ---- all productions

module _ (g : Grammar) where
  abbrev pub all_records : List ℕ
  all_records = records_from g (bodies_address g) 0 g.productions

  abbrev pub all_bodies : List ℕ
  all_bodies = bodies_from g (bodies_address g) g.productions

  -- an area into which both are written
  abbrev pub with_all : List ℕ → List ℕ
  with_all old = patch (patch old (records_address g) all_records) (bodies_address g) all_bodies

  -- one into which is written what the places wait at
  abbrev pub with_waits : List ℕ → List ℕ
  with_waits old = patch old (waits_address g) (waits g)

  -- where the bodies end is where the program ends
  end_is : WellFormed g → bodies_address g + length all_bodies ≡ length (program_of g)
  end_is w = omega (arith, bodies_length g (bodies_address g) g.productions, program_length g w)

-- the first p productions are written
pub record ProductionsPart (g : Grammar) (old : List ℕ) (p : ℕ) (area : List ℕ) (at body : ℕ) : Type 0 where
  pub growing : Growing (with_waits g old) (with_all g (with_waits g old)) (bodies_address g + length (all_bodies g)) (patch area (wait_at g p) (rest_waits g p)) at body (rest_records g p body) (rest_bodies g p body)
  pub place : at ≡ records_address g + 8 * p
  pub above : bodies_address g ≤ body
  pub waiting : length (rest_waits g p) + symbols_limit * p ≡ symbols_limit * length g.productions

module _ {table : List ℕ} {sizes : Sizes} {inherited synthesized rows offsets sets : List ℕ} (x : Outlined table sizes inherited synthesized rows offsets sets) where
  abbrev tg : Grammar
  tg = grammar_in table

  module _ {old : List ℕ} (long : area_length ≤ length old) where
    pub productions_start : ProductionsPart tg old 0 old (9 + 64 * sizes.nonterminals) (9 + 64 * sizes.nonterminals + 20 * sizes.productions)
    unfolding rest_records rest_bodies rest_waits
    productions_start =
        let r : records_address tg ≡ 9 + 64 * sizes.nonterminals = omega (arith, x.outline.numbers.nonterminals) in
        let a : bodies_address tg ≡ 9 + 64 * sizes.nonterminals + 20 * sizes.productions = omega (arith, x.outline.numbers.nonterminals, count_is x.outline) in
        let q : waits_address tg ≡ wait_at tg 0 = omega arith in
        let end = bodies_address tg + length (all_bodies tg) in
        let all = with_all tg (with_waits tg old) in
        let ra = 9 + 64 * sizes.nonterminals in
        let ba = ra + 20 * sizes.productions in
        record {
          growing =
              subst (λ z. Growing (with_waits tg old) all end (patch old z (waits tg)) ra ba (rest_records tg 0 ba) (rest_bodies tg 0 ba)) q
              (subst (λ z. Growing (with_waits tg old) all end (with_waits tg old) z ba (rest_records tg 0 ba) (rest_bodies tg 0 ba)) r
              (subst (λ z. Growing (with_waits tg old) all end (with_waits tg old) (records_address tg) z (rest_records tg 0 z) (rest_bodies tg 0 z)) a
              (growing_start (with_waits tg old) (records_address tg) (bodies_address tg) (all_records tg) (all_bodies tg) (omega (arith, records_length tg (bodies_address tg) 0 tg.productions)))));
          place = omega (arith, r);
          above = omega (arith, a);
          waiting = omega (arith, waits_length tg tg.productions (short_productions (well_formed_lem x.outline)));
        }

    module _ {p : ℕ} {area : List ℕ} {at body : ℕ} (s : ProductionsPart tg old p area at body) where
      pub productions_size : length area ≡ length old
      productions_size = omega (arith, s.growing.size, patch_length area (wait_at tg p) (rest_waits tg p), patch_length old (waits_address tg) (waits tg))

      module _ (l : p < sizes.productions) where
        counted : p < length tg.productions
        counted = omega (arith, count_is x.outline)

        bodies_left : length (rest_bodies tg p body) ≡ body_size tg (production_at tg p) + length (rest_bodies tg (p + 1) (body + body_size tg (production_at tg p)))
        bodies_left = ap length (bodies_turn tg (well_formed_lem x.outline) p body counted) ∙ (length-append (body_at tg p body) (rest_bodies tg (p + 1) (body + body_size tg (production_at tg p))) ∙ omega (arith, body_length tg body (production_at tg p)))

        pub production_fits : ProductionFits table sizes inherited synthesized rows offsets sets p area at body
        production_fits =
            record {
              outlined = x;
              here = l;
              behind = omega (arith, s.growing.address, end_is tg (well_formed_lem x.outline), program_fits tg (well_formed_lem x.outline), bodies_left);
              low = omega (arith, s.place, s.above, counted);
              long = omega (arith, long, productions_size);
              apart = omega (arith, s.above, counted);
            }

        pub record_low : at + 8 ≤ area_length
        record_low = let f = production_fits in omega (arith, f.low, f.behind)

        module _ {new : List ℕ} {end : ℕ} (wrote : ProductionWrote tg p area new at body end) where
          abbrev row : List ℕ
          row = wait_row tg (production_at tg p)

          row_long : length row ≡ symbols_limit
          row_long = wait_row_length tg (production_at tg p) (well_formed_at tg (well_formed_lem x.outline) p counted).short

          left_is : rest_waits tg p ≡ row ++ rest_waits tg (p + 1)
          left_is = waits_turn tg (well_formed_lem x.outline) p counted

          left_long : length (rest_waits tg (p + 1)) + symbols_limit * (p + 1) ≡ symbols_limit * length tg.productions
          left_long = omega (arith, s.waiting, ap length left_is, length-append row (rest_waits tg (p + 1)), row_long)

          next_is : wait_at tg p + length row ≡ wait_at tg (p + 1)
          next_is = omega (arith, row_long)

          -- the record stands before what the places wait at, which stands before the body
          first_wrote : Wrote (patch area (wait_at tg p) (rest_waits tg p)) (patch wrote.between (wait_at tg p) (rest_waits tg p)) at (at + 8) (record_at tg p body)
          first_wrote = record {
            memory = ap (λ z. patch z (wait_at tg p) (rest_waits tg p)) wrote.recorded.memory ∙ patch_swap area at (record_at tg p body) (wait_at tg p) (rest_waits tg p) (omega (arith, wrote.recorded.address, s.place, counted));
            address = wrote.recorded.address;
          }

          waits_put : patch (patch wrote.between (wait_at tg p) row) (wait_at tg (p + 1)) (rest_waits tg (p + 1)) ≡ patch wrote.between (wait_at tg p) (rest_waits tg p)
          waits_put = ap (λ z. patch (patch wrote.between (wait_at tg p) row) z (rest_waits tg (p + 1))) (sym next_is) ∙ (sym (patch_append wrote.between (wait_at tg p) row (rest_waits tg (p + 1))) ∙ ap (patch wrote.between (wait_at tg p)) (sym left_is))

          then_wrote : Wrote (patch wrote.between (wait_at tg p) (rest_waits tg p)) (patch new (wait_at tg (p + 1)) (rest_waits tg (p + 1))) body end (body_at tg p body)
          then_wrote = subst (λ z. Wrote z (patch new (wait_at tg (p + 1)) (rest_waits tg (p + 1))) body end (body_at tg p body)) waits_put (patch_beside (wait_at tg (p + 1)) (rest_waits tg (p + 1)) (omega (arith, left_long, s.above)) wrote.bodied)

          end_at : body + body_size tg (production_at tg p) ≡ end
          end_at = omega (arith, wrote.bodied.address, body_length tg body (production_at tg p))

          pub productions_turn : ProductionsPart tg old (p + 1) new (at + 8) end
          productions_turn = record {
            growing =
                subst (λ z. Growing (with_waits tg old) (with_all tg (with_waits tg old)) (bodies_address tg + length (all_bodies tg)) (patch new (wait_at tg (p + 1)) (rest_waits tg (p + 1))) (at + 8) end (rest_records tg (p + 1) z) (rest_bodies tg (p + 1) z)) end_at
                (growing_turn (growing_as (records_turn tg (well_formed_lem x.outline) p body counted) (bodies_turn tg (well_formed_lem x.outline) p body counted) s.growing) first_wrote then_wrote);
            place = omega (arith, s.place);
            above = omega (arith, s.above, end_at);
            waiting = left_long;
          }

      pub productions_end : sizes.productions ≤ p → ProductionsWrote tg (with_waits tg old) area body
      productions_end l =
          let m : length tg.productions ≤ p = omega (arith, count_is x.outline) in
          let none : patch area (wait_at tg p) (rest_waits tg p) ≡ area = ap (patch area (wait_at tg p)) (waits_end tg (well_formed_lem x.outline) p m) ∙ patch_none area (wait_at tg p) in
          let e = growing_end (growing_as (records_end tg (well_formed_lem x.outline) p body m) (bodies_end tg (well_formed_lem x.outline) p body m) s.growing) in
          record {
            between = patch (with_waits tg old) (records_address tg) (all_records tg);
            recorded = record { memory = refl; address = omega (arith, records_length tg (bodies_address tg) 0 tg.productions) };
            bodied = record { memory = sym none ∙ e.0; address = e.1 };
          }

pub productions_length : (g : Grammar) (old : List ℕ) {new : List ℕ} {next : ℕ} → ProductionsWrote g (with_waits g old) new next → length new ≡ length old
productions_length g old w = wrote_length w.bodied ∙ (wrote_length w.recorded ∙ patch_length old (waits_address g) (waits g))

-- what the records say of a production, for the directory
pub productions_recorded : (g : Grammar) (old : List ℕ) {new : List ℕ} {next : ℕ} → WellFormed g → area_length ≤ length old → ProductionsWrote g (with_waits g old) new next → Recorded g new
productions_recorded g old {new} w long k p l = (word 5 (omega arith) ∙ ap (λ q. length (entry_tests g q)) same, word 6 (omega arith) ∙ ap (λ q. body_address g p + scheme_offset g q) same)
  where
    same : get_or g.productions p (whole_production g) ≡ production_at g p
    same = sym (listed_at g w p l)

    words : List ℕ
    words = record_words g (body_address g p) p (get_or g.productions p (whole_production g)) (drop (suc p) g.productions)

    room : records_address g + length (all_records g) ≤ length (with_waits g old)
    room = omega (arith, records_length g (bodies_address g) 0 g.productions, patch_length old (waits_address g) (waits g), w.nonterminals.1, w.productions.1, long)

    word : (i : ℕ) → i < 8 → get_or new (record_address g p + i) 0 ≡ get_or words i 0
    word i m =
        let stands = record_in g (bodies_address g) 0 g.productions p (whole_production g) (body_address g p) p l refl (omega arith) in
        let at : record_address g p + i ≡ records_address g + (8 * p + i) = omega arith in
        ap (λ z. get_or z (record_address g p + i) 0) k.bodied.memory
        ∙ (patch_before k.between (bodies_address g) (all_bodies g) (record_address g p + i) (omega arith)
        ∙ (ap₂ (λ z j. get_or z j 0) k.recorded.memory at
        ∙ (patch_inside (with_waits g old) (records_address g) (all_records g) (8 * p + i) room (omega (arith, records_length g (bodies_address g) 0 g.productions))
        ∙ stands_word stands i m)))

-- ---- the whole

pub program_written : {table : List ℕ} {sizes : Sizes} {inherited synthesized rows offsets sets : List ℕ} (x : Outlined table sizes inherited synthesized rows offsets sets) {old a b new : List ℕ} {s d r : ℕ} → area_length ≤ length old
    → Wrote old a 0 s (segment_words (grammar_in table)) → ProductionsWrote (grammar_in table) (with_waits (grammar_in table) a) b r → Wrote b new 9 d (directory (grammar_in table))
    → (new ≡ written (program_of (grammar_in table)) old) × (r ≡ length (program_of (grammar_in table)))
program_written {table} x {old} {a} {b} {new} {s} {d} {r} long f k h =
    let g = grammar_in table in
    let f' : Wrote old a 0 9 (segment_words g) = record { memory = f.memory; address = refl } in
    let h' : Wrote b new 9 (records_address g) (directory g) = record { memory = h.memory; address = omega (arith, directory_length g) } in
    let v' : Wrote a (with_waits g a) (waits_address g) (bodies_address g) (waits g) = record { memory = refl; address = omega (arith, waits_length g g.productions (short_productions (well_formed_lem x.outline))) } in
    let behind = wrote_as (append_assoc (all_records g) (waits g) (all_bodies g)) (wrote_then (wrote_ahead v' k.recorded) k.bodied) in
    let all = wrote_then f' (wrote_ahead behind h') in
    (all.memory ∙ patch_written old (program_of g) (omega (arith, program_fits g (well_formed_lem x.outline), long)), all.address ∙ omega arith)
