-- The entry conditions of a well-formed grammar are ranges over the inherited attributes, each with its bounds of four bytes, and comparisons of two of them.
use Rattle.std.specs.Prelude.{ℕ, zero, suc, ◌≤◌, max, ◌≡◌, ◌&&◌, ℤ, T, eqb, ltb, leb}
use Rattle.std.proofs.Common.{arith, eqb→eq, lt→ltb, le→leb}
use Rattle.std.proofs.Math.Option.{Option, none, some}
use Rattle.std.specs.Int.Signed.{le_z}
use Rattle.meaning.specs.Base.{all}
use Rattle.meaning.specs.Grammar.{nonterminal, Occurrence, Condition, range, atmost, Production, Grammar, production_at, inh, condition_position, map_condition, conditions_at}
use Rattle.meaning.specs.Value.{added}
use Rattle.meaning.specs.Rules.{InputAt, Input, Reads, Proper, InFourBytes, WellFormedProduction, WellFormed, lowest_constant, highest_constant, four_bytes}
use Rattle.meaning.specs.Derivation.{Listed}
use Rattle.meaning.specs.Decide.{entry_conditions}
use Rattle.theory_base.specs.Members.{and, in_all, in_keep, map_in}
use Rattle.theory_base.specs.WellFormed.{well_formed_at}
use Rattle.theory_sets.specs.Intervals.{among, entry}

module _ (g : Grammar) (p : Production) where
  abbrev count : ℕ
  count = inh g (nonterminal p.left)

  input_0 : (k a : ℕ) → k ≡ 0 → InputAt g p k a → (1 ≤ a) × (a ≤ count)
  input_0 zero a e i = i
  input_0 (suc k) a e i = absurd (omega arith)

  bounded : (c : ℤ) → InFourBytes c → T (four_bytes c)
  bounded c b = and (le_z lowest_constant c) (le_z c highest_constant) b.0 b.1

  read_among : (o : Occurrence) → o.position ≡ 0 → Input g p o → T (among count o.attribute)
  read_among o z i =
      let b = input_0 o.position o.attribute z i in
      and (ltb 0 o.attribute) (leb o.attribute count) (lt→ltb 0 o.attribute b.0) (le→leb o.attribute count b.1)

  offset_fits : (o u : Occurrence) (c : Option ℤ) → Proper (atmost o u c) → T (four_bytes (added c))
  offset_fits o u none r = tt
  offset_fits o u (some c) r = bounded c r

  entry_fits : (c : Condition Occurrence) → T (eqb (condition_position c) 0) → Reads (Input g p) c → Proper c → T (entry count (map_condition (λ o. o.attribute) c))
  entry_fits (range o l h) t i r =
      and (among count o.attribute) (four_bytes l && four_bytes h) (read_among o (eqb→eq o.position 0 t) i) (and (four_bytes l) (four_bytes h) (bounded l r.0) (bounded h r.1))
  entry_fits (atmost o u c) t i r =
      let e = eqb→eq (max o.position u.position) 0 t in
      let a = among count o.attribute in
      let b = among count u.attribute in
      and a (b && four_bytes (added c)) (read_among o (omega arith) i.0) (and b (four_bytes (added c)) (read_among u (omega arith) i.1) (offset_fits o u c r))

pub entries_fit : (g : Grammar) → WellFormed g → (p : ℕ) → Listed g p → T (all (entry (inh g (nonterminal (production_at g p).left))) (entry_conditions (production_at g p)))
entries_fit g f p l =
    let q = production_at g p in
    let w : WellFormedProduction g q = well_formed_at g f p l in
    in_all (entry (inh g (nonterminal q.left))) (entry_conditions q)
    (λ d i. let m = map_in (map_condition (λ o. o.attribute)) (conditions_at q 0) d i in
    let k = in_keep (λ c. eqb (condition_position c) 0) q.conditions m.0 m.1 in
    rw m.2 (entry_fits g q m.0 k.0 (w.reads m.0 k.1) (w.proper m.0 k.1)))
