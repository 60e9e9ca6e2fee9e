-- What the outline of an accepted table says of its productions, and what the call answers.
use Prim.Native.Nat.{ℕ, ◌+◌, ◌/◌, ◌≤◌, ◌<◌}
use native.Mathlib.Omega.{arith}
use mathlib.Core.Path.{◌≡◌, refl, sym, ap, ◌∙◌, subst}
use mathlib.Core.List.{List}
use lib.ListN.{length, get_or, take}
use lib.Seq.{length-take-le, get_or-take}
use lib.Dec.{eqb}
use lib.IntN.{ℤ}
use borrow.Author.Tests.{ne_eqb, eq-eqb}
use Rattle.meaning.specs.Limits.{nonterminals_limit, productions_limit}
use Rattle.meaning.specs.Rules.{WellFormed}
use Rattle.meaning.specs.Layout.{Bytes}
use Rattle.meaning.specs.Grammar.{Grammar, production_at}
use Rattle.meaning.specs.Table.{symbol_of}
use Rattle.outline.specs.declared.Sizes.{Sizes}
use Rattle.outline.specs.Images.{ImageOf, row_start, size_at, right_is, size_is, symbol_is, rows_length}
use Rattle.outline.specs.Outline.{grammar_in, Productions, Outline}
use Rattle.checker.specs.Judging.{Accepts, Judges}
use Rattle.checker.proofs.Cases.{accepted_case, refused_case}
use Rattle.std.specs.Prelude.{Result, Ok, Err}
use Rattle.refusals.specs.Numbers.{fault_number}
use Rattle.refusals.specs.declared.TableRefusal.{TableRefusal}
use Rattle.meaning_judge.specs.Judge.{JudgeAnswer, JudgedAs, SettlesIf, SettlesUnder, Settles, turned_back}
use Rattle.theory_judge.specs.Marks.{leaves_many}
use Rattle.theory_judge.specs.Whole.{none_many, settles_none}
use Rattle.judge_nodes.specs.parts.Checked.{leaves_in}
use Rattle.judge_sheet.specs.declared.Judgement.{Judgement}
use Rattle.judge_sheet.specs.Judged.{judgement_is, SheetReady, SheetSettled}

-- ---- the book of an accepted table

-- the rows of the productions and nothing else
module _ {t rows offsets : List ℕ} {count : ℕ} (x : Productions t rows offsets count) where
  abbrev r : ImageOf rows count (grammar_in t)
  r = x.rows_of

  abbrev cut : List ℕ
  cut = take (row_start count) rows

  pub cut_long : length cut ≡ row_start count
  cut_long = length-take-le (row_start count) rows r.room

  cut_byte : (i : ℕ) → i < row_start count → get_or cut i 0 ≡ get_or rows i 0
  cut_byte i l = get_or-take (row_start count) rows i 0 l

  cut_size : (p : ℕ) → p < count → size_at cut p ≡ size_at rows p
  cut_size p l = cut_byte (row_start p + 1) (omega arith)

  cut_rows : ImageOf cut count (grammar_in t)
  cut_rows = record {
    sound = r.sound;
    narrow = r.narrow;
    counted = r.counted;
    room = omega (arith, cut_long);
    sizes = λ p l. omega (arith, cut_size p l, r.sizes p l);
    left = λ p l. cut_byte (row_start p) (omega arith) ∙ r.left p l;
    right = λ p l.
        right_is cut count (omega (arith, cut_long)) p l (omega (arith, cut_size p l, r.sizes p l)) (production_at (grammar_in t) p).right (cut_size p l ∙ size_is r p l)
        (λ k m. ap symbol_of (cut_byte (row_start p + 2 + k) (omega (arith, size_is r p l, r.sizes p l))) ∙ symbol_is r p l k m);
  }

  pub productions_cut : Productions t cut offsets (length cut / 16)
  productions_cut =
      let e : count ≡ length cut / 16 = omega (arith, cut_long) in
      record { is_read = x.is_read; rows_of = subst (λ n. ImageOf cut n (grammar_in t)) e cut_rows; offset = λ p l. x.offset p (omega (arith, e)) }

-- ---- the call

module _ (t inherited synthesized rows offsets sets : List ℕ) (q : Result Sizes TableRefusal) (j : Judges t inherited synthesized rows offsets sets q) (ks : List ℕ) (vs : List ℤ) (sheet : List ℕ) where
  pub answer_refused : (r : TableRefusal) → q ≡ Err r → JudgedAs t ks vs sheet (turned_back (fault_number r.fault) r.offset)
  answer_refused r e = subst (λ c. SettlesUnder c ks vs sheet (turned_back (fault_number r.fault) r.offset)) (sym (refused_case t inherited synthesized rows offsets sets q j r e)) refl

  module _ (sizes : Sizes) (e : q ≡ Ok sizes) where
    abbrev accepts : Accepts t sizes inherited synthesized rows offsets sets
    accepts = accepted_case t inherited synthesized rows offsets sets q j sizes e

    abbrev b : Outline t sizes inherited synthesized rows offsets
    b = accepts.outlined.outline

    abbrev g : Grammar
    g = grammar_in t

    abbrev formed : WellFormed g
    formed = b.productions.rows_of.sound

    pub lengths : (nonterminals_limit ≡ length inherited) × (nonterminals_limit ≡ length synthesized) × (rows_length ≡ length rows) × (productions_limit ≡ length offsets)
    lengths = let l = b.lengths in (sym l.0, sym l.1, sym l.2, sym l.3)

    if_even : (a : JudgeAnswer) → SettlesIf (eqb (length ks) (length vs)) g ks vs sheet a → JudgedAs t ks vs sheet a
    unfolding grammar_in
    if_even a h = subst (λ c. SettlesUnder c ks vs sheet a) (sym accepts.is_usable) h

    pub answer_uneven : (length ks ≡ length vs → ⊥) → JudgedAs t ks vs sheet (turned_back 38 0)
    answer_uneven f = if_even (turned_back 38 0) (subst (λ b. SettlesIf b g ks vs sheet (turned_back 38 0)) (sym (ne_eqb (length ks) (length vs) f)) refl)

    module _ (bytes : Bytes t) where
      pub rows_fit : row_start sizes.productions ≤ length rows
      rows_fit = b.productions.rows_of.room

      pub rows_cut : {long : ℕ} → long ≡ row_start sizes.productions → long ≡ length (take long rows)
      rows_cut e = subst (λ n. n ≡ length (take n rows)) (sym e) (sym (cut_long b.productions))

      module _ (even : length ks ≡ length vs) where
        settled : (a : JudgeAnswer) → Settles g (leaves_in g ks vs) sheet a → JudgedAs t ks vs sheet a
        settled a h = if_even a (subst (λ b. SettlesIf b g ks vs sheet a) (sym (eq-eqb (length ks) (length vs) even)) h)

        pub answer_many : 4294967296 ≤ length ks → JudgedAs t ks vs sheet (turned_back 43 0)
        answer_many l = settled (turned_back 43 0) (settles_none g formed ks vs sheet (none_many g formed ks vs sheet (omega (arith, leaves_many g ks vs even))))

        module _ (few : length ks < 4294967296) (is_bytes : Bytes sheet) where
          ready : SheetReady t (take (row_start sizes.productions) rows) inherited synthesized offsets ks vs sheet sizes.start sizes.result
          ready = record {
            book = record {
              is_table = bytes;
              productions = productions_cut b.productions;
              counts = b.counts;
              even = even;
              few = few;
              is_bytes = is_bytes;
            };
            is_start = b.numbers.start;
            is_result = b.numbers.result;
          }

          -- where the rows are cut behind the last production's
          module _ {long : ℕ} (cut : long ≡ row_start sizes.productions) where
            pub answer_ready : SheetReady t (take long rows) inherited synthesized offsets ks vs sheet sizes.start sizes.result
            answer_ready = subst (λ n. SheetReady t (take n rows) inherited synthesized offsets ks vs sheet sizes.start sizes.result) (sym cut) ready

            pub answer_settled : (r : Judgement) → SheetSettled t (take long rows) inherited synthesized offsets ks vs sheet sizes.start sizes.result r → JudgedAs t ks vs sheet (judgement_is r)
            answer_settled r h = settled (judgement_is r) (h answer_ready)
