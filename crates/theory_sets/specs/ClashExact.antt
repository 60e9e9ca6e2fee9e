-- 02 (j), proved: the clash test is exact for entry conditions that compare; it finds values, or a cycle is negative; where all are ranges it is the test by intervals.
use Rattle.std.specs.Prelude.{ℕ, ◌≤◌, ◌⊎◌, ◌&&◌, not, T}
use Rattle.std.proofs.Common.{inl, inr, T_not}
use Rattle.meaning.specs.Limits.{attributes_limit}
use Rattle.meaning.specs.Base.{all}
use Rattle.meaning.specs.Grammar.{Grammar, production_at}
use Rattle.meaning.specs.Value.{holds}
use Rattle.meaning.specs.Rules.{WellFormed}
use Rattle.meaning.specs.Derivation.{entry_conditional}
use Rattle.meaning.specs.Decide.{satisfiable, clash, entry_conditions}
use Rattle.meaning_statements.specs.CompareStatements.{value_in, Satisfiable, NegativeCycle, Alternatives, attributes, of_both, ClashExactly, ValuesOrCycle, RangesAgree}
use Rattle.theory_base.specs.Members.{both, all_append}
use Rattle.theory_differences.specs.Graph.{AllKnown, no_negative_cycle}
use Rattle.theory_differences.specs.Building as Building
use Rattle.theory_sets.specs.Tests.{all_left, all_right}
use Rattle.theory_sets.specs.Intervals.{entry}
use Rattle.theory_sets.specs.PlainEntries.{enters_by_number, enters_by_occurrence}
use Rattle.theory_sets.specs.Satisfiable as Satisfying
use Rattle.theory_sets.specs.Clashes as Clashes

module _ (g : Grammar) (p q : ℕ) (a : Alternatives g p q) where
  abbrev n : ℕ
  n = attributes g p

  fits : T (all (entry n) (of_both g p q))
  fits = Clashes.fits a.well_formed p q a.first a.second a.left

  few : n ≤ attributes_limit
  few = Clashes.few a.well_formed p

  known : AllKnown (of_both g p q)
  known = Satisfying.known n few (of_both g p q) fits

  values : T (satisfiable n (of_both g p q)) → Satisfiable n (of_both g p q)
  values t = let v = Satisfying.satisfiable_values n few (of_both g p q) fits t in record { values = v.0; meets = record { size = v.1; ranged = v.2; each = v.3 } }

  then_satisfiable : Satisfiable n (of_both g p q) → T (satisfiable n (of_both g p q))
  then_satisfiable s = Satisfying.values_satisfiable n few (of_both g p q) fits s.values s.meets.size s.meets.ranged s.meets.each

  otherwise : T (not (satisfiable n (of_both g p q))) → Satisfiable n (of_both g p q) ⊎ NegativeCycle n (of_both g p q) → NegativeCycle n (of_both g p q)
  otherwise t (inl s) = absurd (T_not (satisfiable n (of_both g p q)) t (then_satisfiable s))
  otherwise t (inr c) = c

pub values_or_cycle : ValuesOrCycle
values_or_cycle g p q a = record {
  found = values g p q a;
  shown = λ t. otherwise g p q a t (Building.values_or_cycle (attributes g p) (of_both g p q) (few g p q a) (known g p q a));
  apart = no_negative_cycle (attributes g p) (of_both g p q) (known g p q a);
}

pub ranges_agree : RangesAgree
ranges_agree g p q a = Satisfying.ranges_agree (attributes g p) (few g p q a) (of_both g p q) (fits g p q a)

pub clash_exactly : ClashExactly
clash_exactly g p q a c d l x y = (forth, back)
  where
    w : WellFormed g
    w = a.well_formed

    entered : Clashes.Enter w p q → Satisfiable (attributes g p) (of_both g p q)
    entered (inl h) = absurd (T_not (entry_conditional g p) h c)
    entered (inr (inl h)) = absurd (T_not (entry_conditional g q) h d)
    entered (inr (inr v)) = record { values = v.0; meets = record { size = v.1; ranged = v.2; each = all_append (holds (value_in v.0)) (entry_conditions (production_at g p)) (entry_conditions (production_at g q)) (enters_by_number g v.0 p v.3) (enters_by_number g v.0 q v.4) } }

    forth : T (clash g (production_at g p) (production_at g q)) → Satisfiable (attributes g p) (of_both g p q)
    forth t = entered (Clashes.enters→Enter w p q a.first a.second a.left (both (Clashes.alike w p q && Clashes.meeting w p q) (Clashes.enters w p q) t).1)

    back : Satisfiable (attributes g p) (of_both g p q) → T (clash g (production_at g p) (production_at g q))
    back s =
        let v = s.values in
        let e = s.meets.each in
        let ps = entry_conditions (production_at g p) in
        let qs = entry_conditions (production_at g q) in
        Clashes.Clash→clash w p q a.first a.second (record {
          left = a.left;
          meet = (l, x, y);
          enter = inr (inr (v, s.meets.size, s.meets.ranged, enters_by_occurrence g v p (all_left (holds (value_in v)) ps qs e), enters_by_occurrence g v q (all_right (holds (value_in v)) ps qs e)));
        })
