-- The stretch of a production, for every list of bytes and every number.
use Rattle.std.specs.Prelude.{ℕ, zero, suc, ◌+◌, ◌-◌, ◌≤◌, ◌<◌, ◌≡◌, refl, Bool, true, false, List, [], ◌++◌, map, reverse, length, get_or, take, drop, ltb}
use Rattle.std.proofs.Common.{arith, sym, ap, ◌∙◌, subst, append_assoc, length-append, drop-drop, ltb→lt, lt→ltb, nltb→le}
use Rattle.std.proofs.lemmas.List.{length-map, length-reverse}
use Rattle.std.proofs.Math.ListN.{get_or-eq_default}
use Rattle.std.proofs.Math.Seq.{drop-append_seam, take-append_seam}
use Rattle.meaning.specs.Grammar.{Grammar, Production, production_at, whole_production}
use Rattle.meaning.specs.Layout as Layout
use Rattle.meaning.specs.Layout.{field, header_bytes, counts_fields, carrying_fields, production_bytes, RulesAndConditions, Productions, Bytes}
use Rattle.meaning.specs.Table.{State, Entry, Read, no_entry, well_formed, malformed, read_table, production_of, grammar_of}
use Rattle.meaning.specs.Judgement.{Verdict, Accepted, Judged, rejected, entry_offset}
use Rattle.meaning.specs.Decide.{judge}
use Rattle.meaning.specs.PublicCalls.{Checked, usable, unusable, checked_as, Stretch, cut, stretch_end, stretch_of}
use Rattle.meaning_statements.specs.TableStatements.{StretchIn, stretch, StretchExactly}
use Rattle.theory_table.specs.Stretches.{Stretches, nothing, stretch as stretched, first_offset, stretched_productions}
use Rattle.theory_table.specs.Places.{productions_at}
use Rattle.theory_table.specs.ReadLaidOut.{read_stretches, read_front, read_length}
use Rattle.theory_base.specs.Members.{map_at, T→true}
use Rattle.theory_base.specs.WellFormed.{listed_at}
use Rattle.theory_table.specs.ReadWellFormed.{read_well_formed}
use Rattle.theory_sets.specs.Accepted.{judged_is}
use Rattle.theory_answers.specs.Called.{checks}

-- ---- the stretches before, at and behind a number

-- d stands for what is not listed
record Split (es : List Entry) (o : ℕ) (rest : List ℕ) (p : ℕ) (d : Production) : Type 0 where
  earlier : List ℕ
  body : List ℕ
  later : List ℕ
  is_earlier : Productions (take p (map production_of es)) earlier
  is_body : RulesAndConditions (get_or (map production_of es) p d).rules (get_or (map production_of es) p d).conditions body
  is_later : Productions (drop (suc p) (map production_of es)) later
  is_rest : rest ≡ earlier ++ ((field 3 (production_bytes (get_or (map production_of es) p d)) ++ body) ++ later)
  starts : (get_or es p no_entry).offset ≡ o + length earlier
  ends : o + length earlier + length (field 3 (production_bytes (get_or (map production_of es) p d)) ++ body) ≡ get_or (map (λ e. e.offset) es) (suc p) (o + length rest)

split_at : {es : List Entry} {o : ℕ} {rest : List ℕ} → Stretches es o rest → (p : ℕ) (d : Production) → p < length es → Split es o rest p d
split_at nothing p d l = absurd (omega arith)
split_at (stretched e {es} {body} {rest} own later) zero d l =
    let pb : List ℕ = field 3 (production_bytes (production_of e)) in
    record {
      earlier = [];
      body = body;
      later = rest;
      is_earlier = Layout.nothing;
      is_body = own;
      is_later = stretched_productions later;
      is_rest = sym (append_assoc pb body rest);
      starts = omega arith;
      ends = omega arith ∙ first_offset later (e.offset + length (pb ++ (body ++ rest))) (omega (arith, length-append pb body, length-append pb (body ++ rest), length-append body rest));
    }
split_at (stretched e {es} {body} {rest} own later) (suc p) d l =
    let pb : List ℕ = field 3 (production_bytes (production_of e)) in
    let i = split_at later p d (omega arith) in
    let mine : List ℕ = field 3 (production_bytes (get_or (map production_of es) p d)) ++ i.body in
    let first : length (pb ++ (body ++ i.earlier)) ≡ length (pb ++ body) + length i.earlier = omega (arith, length-append pb body, length-append pb (body ++ i.earlier), length-append body i.earlier) in
    let all : e.offset + length (pb ++ body) + length rest ≡ e.offset + length (pb ++ (body ++ rest)) = omega (arith, length-append pb body, length-append pb (body ++ rest), length-append body rest) in
    record {
      earlier = pb ++ (body ++ i.earlier);
      body = i.body;
      later = i.later;
      is_earlier = Layout.production (production_of e) own i.is_earlier;
      is_body = i.is_body;
      is_later = i.is_later;
      is_rest = ap (λ z. pb ++ (body ++ z)) i.is_rest ∙ ap (λ z. pb ++ z) (sym (append_assoc body i.earlier (mine ++ i.later))) ∙ sym (append_assoc pb (body ++ i.earlier) (mine ++ i.later));
      starts = omega (arith, i.starts, first);
      ends = omega (arith, first) ∙ i.ends ∙ ap (λ z. get_or (map (λ c. c.offset) es) (suc p) z) all;
    }

-- ---- what is cut out

module _ (bs : List ℕ) (s : State) (r : read_table bs ≡ well_formed s) (p : ℕ) (l : p < length s.entries) where
  abbrev es : List Entry
  es = reverse s.entries

  -- up to the next production's offset, or the table's end
  end_is : stretch_end bs s p ≡ get_or (map (λ e. e.offset) es) (suc p) (length bs)
  end_is = go (ltb (suc p) (length s.entries)) refl
    where
      go : (b : Bool) → ltb (suc p) (length s.entries) ≡ b → (elim b as (λ z. ℕ) [ true ↦ entry_offset s (suc p) | false ↦ length bs ]) ≡ get_or (map (λ e. e.offset) es) (suc p) (length bs)
      go true e = sym (map_at (λ (x : Entry). x.offset) es (suc p) no_entry (length bs) (omega (arith, ltb→lt (suc p) (length s.entries) (rw e tt), length-reverse s.entries)))
      go false e = sym (get_or-eq_default (map (λ (x : Entry). x.offset) es) (length bs) {n = suc p} (omega (arith, nltb→le (suc p) (length s.entries) (rw e tt), length-reverse s.entries, length-map es (λ (x : Entry). x.offset))))

  module _ (h : Bytes bs) where
    abbrev from : ℕ
    from = productions_at s

    abbrev grammar : Grammar
    grammar = grammar_of s

    split : Split es from (drop from bs) p (whole_production grammar)
    split = split_at (read_stretches bs s h r) p (whole_production grammar) (omega (arith, length-reverse s.entries))

    abbrev part : List ℕ
    part = field 3 (production_bytes (get_or grammar.productions p (whole_production grammar))) ++ split.body

    cut_is : cut bs (entry_offset s p) (stretch_end bs s p) ≡ part
    cut_is =
        let here : drop (from + length split.earlier) bs ≡ part ++ split.later = sym (drop-drop (length split.earlier) from bs) ∙ ap (drop (length split.earlier)) split.is_rest ∙ drop-append_seam split.earlier (part ++ split.later) in
        let e : stretch_end bs s p ≡ from + length split.earlier + length part = end_is ∙ ap (get_or (map (λ x. x.offset) es) (suc p)) (sym (read_length bs s h r)) ∙ sym split.ends in
        let f : stretch_end bs s p - entry_offset s p ≡ length part = omega (arith, split.starts) in
        ap (λ k. take k (drop (entry_offset s p) bs)) f ∙ ap (λ k. take (length part) (drop k bs)) split.starts ∙ ap (take (length part)) here ∙ take-append_seam part split.later

    -- the production by its number
    named : production_at grammar p ≡ get_or grammar.productions p (whole_production grammar)
    named = listed_at grammar (read_well_formed bs s r) p (omega (arith, length-map es production_of, length-reverse s.entries))

    in_place : StretchIn bs grammar p part
    in_place = record {
      earlier = split.earlier;
      body = split.body;
      later = split.later;
      is_earlier = split.is_earlier;
      is_body = subst (λ q. RulesAndConditions q.rules q.conditions split.body) (sym named) split.is_body;
      is_part = ap (λ q. field 3 (production_bytes q) ++ split.body) (sym named);
      is_later = split.is_later;
      is_table = read_front bs s h r ∙ ap (λ z. field 1 (header_bytes grammar) ++ (counts_fields grammar.counts ++ (carrying_fields grammar.carrying ++ z))) split.is_rest;
    }

-- ---- by the table

module _ (bs : List ℕ) (p n o : ℕ) where
  abbrev given : State → Bool → Stretch
  given s b = elim b as (λ z. Stretch) [ true ↦ stretch (cut bs (entry_offset s p) (stretch_end bs s p)) n o | false ↦ stretch [] 14 0 ]

  abbrev given_by : Checked → Stretch
  given_by k = elim k as (λ z. Stretch) [ unusable m f ↦ stretch [] m f | usable s ↦ given s (ltb p (length s.entries)) ]

  accepted_gives : (g : Grammar) (a : Accepted bs g) (b : Bool) → ltb p (length a.state.entries) ≡ b → stretch_of bs p n o ≡ given a.state b
  accepted_gives g a b e = ap given_by (checks bs g a) ∙ ap (given a.state) e

  listed_length : (g : Grammar) (a : Accepted bs g) → length g.productions ≡ length a.state.entries
  listed_length g a = ap (λ h. length h.productions) (sym a.is_grammar) ∙ length-map (reverse a.state.entries) production_of ∙ length-reverse a.state.entries

  stretch_listed : Bytes bs → (g : Grammar) → Accepted bs g → p < length g.productions → (part : List ℕ) × StretchIn bs g p part × (stretch_of bs p n o ≡ stretch part n o)
  stretch_listed h g a l =
      let m : p < length a.state.entries = omega (arith, listed_length g a) in
      let e = T→true (ltb p (length a.state.entries)) (lt→ltb p (length a.state.entries) m) in
      let mine : List ℕ = part bs a.state a.is_read p m h in
      (mine, subst (λ z. StretchIn bs z p mine) a.is_grammar (in_place bs a.state a.is_read p m h), accepted_gives g a true e ∙ ap (λ z. stretch z n o) (cut_is bs a.state a.is_read p m h))

  stretch_unlisted : (g : Grammar) → Accepted bs g → length g.productions ≤ p → stretch_of bs p n o ≡ stretch [] 14 0
  stretch_unlisted g a l = go (ltb p (length a.state.entries)) refl
    where
      go : (b : Bool) → ltb p (length a.state.entries) ≡ b → stretch_of bs p n o ≡ stretch [] 14 0
      go true e = absurd (omega (arith, ltb→lt p (length a.state.entries) (rw e tt), listed_length g a))
      go false e = accepted_gives g a false e

  stretch_refused : (k f : ℕ) → Judged bs (rejected k f) → stretch_of bs p n o ≡ stretch [] k f
  stretch_refused k f j = ap given_by (refused (read_table bs) ((judged_is bs (rejected k f)).0 j))
    where
      refused : (x : Read) → elim x as (λ z. Verdict) [ malformed m q ↦ rejected m q | well_formed s ↦ judge s ] ≡ rejected k f → elim x as (λ z. Checked) [ malformed m q ↦ unusable m q | well_formed s ↦ checked_as s (judge s) ] ≡ unusable k f
      refused (malformed m q) e = cc
      refused (well_formed s) e = ap (checked_as s) e

pub stretch_exactly : StretchExactly
stretch_exactly bs p n o = (stretch_listed bs p n o, stretch_unlisted bs p n o, stretch_refused bs p n o)
