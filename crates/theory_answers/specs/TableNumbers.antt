-- A table is turned back with one of 01's numbers 1 to 13 only.
use Rattle.std.specs.Prelude.{ℕ, zero, suc, ◌+◌, ◌-◌, ◌*◌, ◌≡◌, refl, ◌⊎◌, Bool, true, false, ◌&&◌, not, List, [], ◌∷◌, get_or, length, take, drop, T, eqb, leb}
use Rattle.std.proofs.Common.{sym, subst, inl, inr}
use Rattle.std.proofs.Math.Option.{Option, none, some}
use Rattle.meaning.specs.Limits.{table_limit}
use Rattle.meaning.specs.Base.{all, count_from}
use Rattle.meaning.specs.Grammar.{Grammar, nonterminal_count}
use Rattle.meaning.specs.Table.{State, Field, Read, well_formed, malformed, Stage, at_header, at_counts, at_first, at_any, stage, kind_of, byte, current, last_complete, tag_stands, limits_hold, known, start_right, directions_right, set_once}
use Rattle.meaning.specs.Table.{left_to_right, bounds_right, lowest_of, judge_field, read_field, at_end, read_all, read_table, nothing_read, grammar_of}
use Rattle.meaning.specs.Judgement.{Verdict, accepted, rejected, counts_offset, entry_offset}
use Rattle.meaning.specs.Decide.{judge, first_where, reachable, productive, is_left_recursive, clashes}
use Rattle.meaning.specs.PublicCalls.{Checked, usable, unusable, checked_as, check}
use Rattle.meaning_statements.specs.CallStatements.{is_table_number}
use Rattle.theory_base.specs.Members.{both}

abbrev Numbered : Read → Type 0
Numbered (well_formed s) = Unit {0}
Numbered (malformed n o) = T (is_table_number n)

lowest_number : (cs : List (Bool × ℕ)) → T (all (λ c. is_table_number c.1) cs) → (lowest_of cs ≡ 0) ⊎ T (is_table_number (lowest_of cs))
lowest_number [] t = inl refl
lowest_number (c ∷ cs) t = go c.0 (lowest_number cs (both (is_table_number c.1) (all (λ d. is_table_number d.1) cs) t).1)
  where
    go : (b : Bool) → (lowest_of cs ≡ 0) ⊎ T (is_table_number (lowest_of cs)) → (◌≡◌ {A = ℕ} (elim b [ true ↦ lowest_of cs | false ↦ c.1 ]) 0) ⊎ T (is_table_number (elim b [ true ↦ lowest_of cs | false ↦ c.1 ]))
    go true ih = ih
    go false ih = inr (both (is_table_number c.1) (all (λ d. is_table_number d.1) cs) t).0

field_number : (s : State) (f : Field) → (judge_field s f ≡ 0) ⊎ T (is_table_number (judge_field s f))
field_number s f = go (tag_stands (stage s) f.tag)
  where
    faults : List (Bool × ℕ)
    faults =
        (limits_hold s (kind_of f.tag) f.body, 4)
        ∷ (known s (kind_of f.tag) f.body, 5)
        ∷ (start_right s (kind_of f.tag) f.body, 6)
        ∷ (directions_right s (kind_of f.tag) f.body, 7)
        ∷ (set_once s (kind_of f.tag) f.body, 8)
        ∷ (left_to_right s (kind_of f.tag) f.body, 9)
        ∷ (bounds_right s (kind_of f.tag) f.body, 10)
        ∷ []

    go : (b : Bool) → (◌≡◌ {A = ℕ} (elim b [ false ↦ 3 | true ↦ lowest_of faults ]) 0) ⊎ T (is_table_number (elim b [ false ↦ 3 | true ↦ lowest_of faults ]))
    go false = inr tt
    go true = lowest_number faults tt

end_number_lem : (s : State) (o : ℕ) → Numbered (at_end s o)
end_number_lem s o = go (stage s) (last_complete s)
  where
    go : (x : Stage) (b : Bool) → Numbered (elim x [
      | at_header ↦ malformed 3 o
      | at_counts ↦ malformed 3 o
      | at_first ↦ malformed 3 o
      | at_any ↦ elim b [ true ↦ well_formed s | false ↦ malformed 8 (current s).offset ]
    ])
    go at_header b = tt
    go at_counts b = tt
    go at_first b = tt
    go at_any true = tt
    go at_any false = tt

-- a field judged: turned back, or the rest is read
judged_number : (n o : ℕ) (r : Read) → (n ≡ 0) ⊎ T (is_table_number n) → Numbered r → Numbered (elim (eqb n 0) [ false ↦ malformed n o | true ↦ r ])
judged_number n o r (inr t) u = go (eqb n 0)
  where
    go : (b : Bool) → Numbered (elim b [ false ↦ malformed n o | true ↦ r ])
    go false = t
    go true = u
judged_number n o r (inl e) u = subst (λ m. Numbered (elim (eqb m 0) [ false ↦ malformed m o | true ↦ r ])) (sym e) u

read_number : (n : ℕ) (s : State) (o : ℕ) (bs : List ℕ) → Numbered (read_all n s o bs)
read_number zero s o bs = tt
read_number (suc n) s o [] = end_number_lem s o
read_number (suc n) s o (t ∷ bs) = go (eqb t 3 && not (last_complete s)) (leb 2 (length bs) && leb size (length bs - 2)) (read_number n (read_field s o (kind_of t) body) (o + 3 + size) (drop (2 + size) bs))
  where
    size : ℕ
    size = byte bs 0 * 256 + byte bs 1

    body : List ℕ
    body = take size (drop 2 bs)

    number : ℕ
    number = judge_field s (record { offset = o; tag = t; body = body })

    rest : Read
    rest = read_all n (read_field s o (kind_of t) body) (o + 3 + size) (drop (2 + size) bs)

    go : (a b : Bool) → Numbered rest → Numbered (elim a [ true ↦ malformed 8 (current s).offset | false ↦ elim b [ false ↦ malformed 2 o | true ↦ elim (eqb number 0) [ false ↦ malformed number o | true ↦ rest ] ] ])
    go true b r = tt
    go false false r = tt
    go false true r = judged_number number o rest (field_number s (record { offset = o; tag = t; body = body })) r

table_number : (bs : List ℕ) → Numbered (read_table bs)
table_number bs = go (leb (length bs) table_limit) (read_number (suc (length bs)) nothing_read 0 bs)
  where
    go : (b : Bool) → Numbered (read_all (suc (length bs)) nothing_read 0 bs) → Numbered (elim b [ false ↦ malformed 1 0 | true ↦ read_all (suc (length bs)) nothing_read 0 bs ])
    go false r = tt
    go true r = r

-- ---- the verdict

abbrev Ruled : Verdict → Type 0
Ruled accepted = Unit {0}
Ruled (rejected n o) = T (is_table_number n)

judge_number : (s : State) → Ruled (judge s)
judge_number s = go (first_where (λ n. not (get_or (reachable g) n false && get_or (productive g) n false)) (count_from 0 (nonterminal_count g))) (first_where (is_left_recursive g) (count_from 0 (nonterminal_count g))) (first_where (clashes g) (count_from 0 (length g.productions)))
  where
    g : Grammar
    g = grammar_of s

    go : (a b c : Option ℕ) → Ruled (elim a [
      | some n ↦ rejected 11 (counts_offset s n)
      | none ↦ elim b [
        | some n ↦ rejected 12 (counts_offset s n)
        | none ↦ elim c [
          | some p ↦ rejected 13 (entry_offset s p)
          | none ↦ accepted
        ]
      ]
    ])
    go (some n) b c = tt
    go none (some n) c = tt
    go none none (some p) = tt
    go none none none = tt

abbrev pub CheckedRight : Checked → Type 0
CheckedRight (usable s) = Unit {0}
CheckedRight (unusable n o) = T (is_table_number n)

pub check_number : (bs : List ℕ) → CheckedRight (check bs)
check_number bs = go (read_table bs) (table_number bs)
  where
    by : (s : State) (v : Verdict) → Ruled v → CheckedRight (checked_as s v)
    by s accepted t = tt
    by s (rejected n o) t = t

    go : (x : Read) → Numbered x → CheckedRight (elim x [ malformed n o ↦ unusable n o | well_formed s ↦ checked_as s (judge s) ])
    go (malformed n o) t = t
    go (well_formed s) t = by s (judge s) (judge_number s)
