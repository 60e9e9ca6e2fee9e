-- The cases of a table judged, and what each means for the public calls.
use Prim.Native.Nat.{ℕ, suc, ◌≤◌, ◌<◌}
use native.Mathlib.Omega.{arith}
use native.Mathlib.Decide.{dec_lt}
use mathlib.Core.Path.{◌≡◌, refl, sym, ap, ◌∙◌, subst}
use mathlib.Core.Bool.{Bool, true, false}
use mathlib.Core.List.{List, []}
use borrow.Author.Tests.{lt-ltb, le-ltb}
use lib.Dec.{ltb}
use lib.ListN.{length}
use Rattle.meaning.specs.Table.{State, Read, well_formed, malformed, read_table}
use Rattle.meaning.specs.Judgement as Judgement
use Rattle.meaning.specs.Judgement.{rejected, entry_offset}
use Rattle.meaning.specs.Decide.{judge, verdict_of}
use Rattle.meaning.specs.PublicCalls.{Checked, usable, unusable, check, cut, stretch_end, stretch_of}
use Rattle.theory_table.specs.Places.{Places, read_places}
use Rattle.theory_table.specs.Reading.{table_reads}
use Rattle.outline.specs.declared.Sizes.{Sizes}
use Rattle.table_reader.specs.Fields.{nth_production}
use Rattle.table_reader.proofs.Accepted.{begins, ends, last_end}
use Rattle.outline.specs.Outline.{state_in, Productions, entries_are}
use Rattle.checker.specs.Judging.{Accepts, Judges}
use Rattle.checker_span.specs.Spans.{Span, Within, Nowhere, stretch_by, stretch_is, Inside, span_in}
use Rattle.checker_span.proofs.Cases.{span_missing, span_found}
use Rattle.checker.specs.Verdicts.{verdict_is, span_where, span_as, span_of}
use Rattle.checker.specs.grammar.Concludes.{Concludes}
use Rattle.std.specs.Prelude.{Result, Ok, Err}
use Rattle.refusals.specs.Numbers.{fault_number}
use Rattle.refusals.specs.declared.TableRefusal.{TableRefusal}

-- ---- the cases

module _ (t inh syn rows offsets sets : List ℕ) (q : Result Sizes TableRefusal) (j : Judges t inh syn rows offsets sets q) where
  pub accepted_case : (sizes : Sizes) → q ≡ Ok sizes → Accepts t sizes inh syn rows offsets sets
  unfolding Judges
  accepted_case sizes e = subst (Judges t inh syn rows offsets sets) e j

  pub refused_case : (r : TableRefusal) → q ≡ Err r → check t ≡ unusable (fault_number r.fault) r.offset
  unfolding Judges
  refused_case r e = subst (Judges t inh syn rows offsets sets) e j

-- ---- the verdict

verdict_read : (t : List ℕ) (s : State) → read_table t ≡ well_formed s → verdict_of t ≡ judge s
verdict_read t s e = go (read_table t) e
  where
    go : (x : Read) → x ≡ well_formed s → ◌≡◌ {A = Judgement.Verdict} (elim x [ malformed n o ↦ rejected n o | well_formed s ↦ judge s ]) (judge s)
    go x e = rw e refl

-- of a table that cannot be read
pub verdict_malformed : (t : List ℕ) (n o : ℕ) → read_table t ≡ malformed n o → rejected n o ≡ verdict_of t
verdict_malformed t n o e = sym (go (read_table t) e)
  where
    go : (x : Read) → x ≡ malformed n o → ◌≡◌ {A = Judgement.Verdict} (elim x [ malformed n o ↦ rejected n o | well_formed s ↦ judge s ]) (rejected n o)
    go x e = rw e refl

-- of one that is read
module _ (t sets : List ℕ) (sizes : Sizes) (read : read_table t ≡ well_formed (state_in t)) where
  pub verdict_judged : (r : Result (Unit {0}) TableRefusal) → Concludes t sizes sets r (judge (state_in t)) → verdict_is r ≡ verdict_of t
  verdict_judged (Ok u) k = sym k.0 ∙ sym (verdict_read t (state_in t) read)
  verdict_judged (Err f) k = sym k ∙ sym (verdict_read t (state_in t) read)

-- ---- the stretch

pub span_refused : (t : List ℕ) (p m f : ℕ) → check t ≡ unusable m f → Nowhere m f ≡ span_of t p
unfolding span_of
span_refused t p m f e = sym (ap (span_as t p) e)

-- the stretch that a production's span is
stretch_span : (t : List ℕ) (p n o : ℕ) → stretch_by t (span_of t p) n o ≡ stretch_of t p n o
unfolding span_of
stretch_span t p n o = go (check t)
  where
    by : (s : State) (b : Bool) → stretch_by t (span_where t s p b) n o ≡ (elim b [ true ↦ record { part = cut t (entry_offset s p) (stretch_end t s p); number = n; offset = o } | false ↦ record { part = []; number = 14; offset = 0 } ])
    by s true = refl
    by s false = refl

    go :
        (k : Checked)
        → stretch_by t (span_as t p k) n o
        ≡ (elim k [ unusable m f ↦ record { part = []; number = m; offset = f } | usable s ↦ elim (ltb p (length s.entries)) [ true ↦ record { part = cut t (entry_offset s p) (stretch_end t s p); number = n; offset = o } | false ↦ record { part = []; number = 14; offset = 0 } ] ])
    go (usable s) = by s (ltb p (length s.entries))
    go (unusable m f) = refl

module _ (t : List ℕ) (sizes : Sizes) (inh syn rows offsets sets : List ℕ) (x : Accepts t sizes inh syn rows offsets sets) where
  abbrev s : State
  s = state_in t

  abbrev n : ℕ
  n = sizes.productions

  abbrev listed : Productions t rows offsets n
  listed = x.outlined.outline.productions

  counted : n ≡ length s.entries
  counted = entries_are listed

  begin : (p : ℕ) → p < n → nth_production t 0 p ≡ entry_offset s p
  begin p l = begins t s listed.is_read p (omega (arith, counted))

  places : Places t s
  places = read_places t s listed.is_read

  module _ (p : ℕ) where
    pub span_said : (r : Span) → r ≡ span_in t n p → r ≡ span_of t p
    unfolding span_of
    span_said r e = e ∙ go (dec_lt p n) ∙ sym (ap (span_as t p) x.is_usable)
      where
        go : Dec (p < n) → span_in t n p ≡ span_where t s p (ltb p (length s.entries))
        go (yes l) =
            sym (span_found t n p l _ _ (sym (begin p l)) (sym (ends t s listed.is_read p)))
            ∙ sym (ap (span_where t s p) (lt-ltb p (length s.entries) (omega (arith, counted))))
        go (no l) =
            sym (span_missing t n p (omega arith))
            ∙ sym (ap (span_where t s p) (le-ltb p (length s.entries) (omega (arith, counted))))

    pub span_inside : (r : Span) → r ≡ span_in t n p → Inside t r
    span_inside r e = subst (Inside t) (sym e) (go (dec_lt p n))
      where
        bounds : p < n → Dec (suc p < n) → (entry_offset s p < stretch_end t s p) × (stretch_end t s p ≤ length t)
        bounds l (yes m) =
            let w = sym (ends t s listed.is_read p) ∙ begin (suc p) m in
            let u = places.rising p (suc p) (omega arith) (omega (arith, counted)) in
            let v = places.below (suc p) (omega (arith, counted)) in
            (omega (arith, u, w), omega (arith, v, w))
        bounds l (no m) =
            let w = last_end t s p (omega (arith, counted)) in
            (omega (arith, places.below p (omega (arith, counted)), w), omega (arith, w))

        go : Dec (p < n) → Inside t (span_in t n p)
        go (yes l) =
            subst (Inside t) (span_found t n p l _ _ (sym (begin p l)) (sym (ends t s listed.is_read p)))
            (let e = bounds l (dec_lt (suc p) n) in (e.0, e.1, omega (arith, e.1, (table_reads t s listed.is_read).0)))
        go (no l) = subst (Inside t) (span_missing t n p (omega arith)) tt

-- ---- by the span's cases

pub stretch_by_lem : (t : List ℕ) (p : ℕ) (r : Span) → r ≡ span_of t p → (n o : ℕ) → stretch_by t r n o ≡ stretch_of t p n o
stretch_by_lem t p r k n o = ap (λ z. stretch_by t z n o) k ∙ stretch_span t p n o

pub stretch_within : (t : List ℕ) (p : ℕ) (r : Span) (from to : ℕ) → r ≡ Within from to → r ≡ span_of t p → (n o : ℕ) → stretch_is (cut t from to) n o ≡ stretch_of t p n o
stretch_within t p r from to e k n o = ap (λ z. stretch_by t z n o) (sym e) ∙ stretch_by_lem t p r k n o

pub stretch_nowhere : (t : List ℕ) (p : ℕ) (r : Span) (m f : ℕ) → r ≡ Nowhere m f → r ≡ span_of t p → (n o : ℕ) → stretch_is [] m f ≡ stretch_of t p n o
stretch_nowhere t p r m f e k n o = ap (λ z. stretch_by t z n o) (sym e) ∙ stretch_by_lem t p r k n o
