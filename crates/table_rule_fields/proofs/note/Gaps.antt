-- A production has a gap exactly if not every output of it has its rule.
use Prim.Native.Nat.{ℕ, zero, suc, ◌+◌, ◌≤◌, ◌<◌}
use mathlib.Core.Path.{◌≡◌, refl, sym, ◌∙◌, ap, ap₂}
use mathlib.Core.Bool.{Bool, true, false, ◌&&◌, ◌||◌, not, true≢false}
use mathlib.Core.List.{List, []}
use native.Mathlib.Omega.{arith}
use lib.Dec.{leb}
use lib.ListN.{length}
use borrow.Author.Tests.{le-leb, leb-true}
use Rattle.meaning.specs.Base.{all, count_from}
use Rattle.meaning.specs.Grammar.{Occurrence}
use Rattle.meaning.specs.Table.{State, Entry, no_header, is_input, has_rule, complete, entry_symbol, counts_at, occurrences_at}
use Rattle.table_rules.specs.Rule.{Small, complete_note}
use Rattle.table_rules.specs.Note.{occurrence, Gap, GapAnswered, GapsAnswered}
use Rattle.table_rules.proofs.Laws.{ap3}
use Rattle.theory_base.specs.Members.{all_counted, all_mapped}
use Rattle.table_rule_fields.proofs.note.Complete.{complete_judged}

-- ---- a test on numbers in a row

pub record Failed (f : ℕ → Bool) (j n : ℕ) : Type 0 where
  pub one : ℕ
  pub above : j ≤ one
  pub below : one < j + n
  pub fails : f one ≡ false

module _ (f : ℕ → Bool) where
  abbrev after : ℕ → ℕ → Bool
  after j n = all f (count_from (suc j) n)

  some_fails : (n j : ℕ) → all f (count_from j n) ≡ false → Failed f j n
  some_fails zero j e = absurd (true≢false e)
  some_fails (suc n) j e = go (f j) refl (some_fails n (suc j))
    where
      go : (x : Bool) → f j ≡ x → (after j n ≡ false → Failed f (suc j) n) → Failed f j (suc n)
      go false q more = record { one = j; above = omega arith; below = omega arith; fails = q }
      go true q more =
          let w = more (sym (ap (λ x. x && after j n) q) ∙ e) in
          record { one = w.one; above = omega (arith, w.above); below = omega (arith, w.below); fails = w.fails }

-- ---- booleans

and_parts : (x y z : Bool) → x && (y && z) ≡ true → (x ≡ true) × (y ≡ true) × (z ≡ true)
and_parts true true true e = (refl, refl, refl)
and_parts false y z e = absurd (true≢false (sym e))
and_parts true false z e = absurd (true≢false (sym e))
and_parts true true false e = absurd (true≢false (sym e))

pub or_parts : (x y : Bool) → x || y ≡ false → (x ≡ false) × (y ≡ false)
or_parts false false e = (refl, refl)
or_parts true y e = absurd (true≢false e)
or_parts false true e = absurd (true≢false e)

-- ---- the outputs of a production

module _ (s : State) (e : Entry) where
  abbrev count : ℕ → ℕ
  count k = (counts_at s (entry_symbol e k)).inherited + (counts_at s (entry_symbol e k)).synthesized

  abbrev passes : Occurrence → Bool
  passes o = is_input s e o || has_rule e o

  abbrev passes_at : ℕ → Bool
  passes_at k = all passes (occurrences_at s e k)

  by_attribute : (k : ℕ) → passes_at k ≡ all (λ a. passes (occurrence k a)) (count_from 1 (count k))
  by_attribute k = all_mapped passes (λ a. occurrence k a) (count_from 1 (count k))

  gap_found : complete s e ≡ false → Gap s e
  gap_found q =
      let k = some_fails passes_at (suc (length e.right)) 0 q in
      let a = some_fails (λ a. passes (occurrence k.one a)) (count k.one) 1 (sym (by_attribute k.one) ∙ k.fails) in
      let parts = or_parts (is_input s e (occurrence k.one a.one)) (has_rule e (occurrence k.one a.one)) a.fails in
      record {
        place = occurrence k.one a.one;
        known = ap3
            (λ x y z. x && (y && z))
            (le-leb k.one (length e.right) (omega (arith, k.below)))
            (le-leb 1 a.one a.above)
            (le-leb a.one (count k.one) (omega (arith, a.below)));
        output = parts.0;
        unset = parts.1;
      }

  gap_incomplete : Gap s e → complete s e ≡ true → ⊥
  gap_incomplete g q =
      let k : ℕ = g.place.position in
      let a : ℕ = g.place.attribute in
      let parts = and_parts (leb k (length e.right)) (leb 1 a) (leb a (count k)) g.known in
      let inside : k ≤ length e.right = leb-true k (length e.right) parts.0 in
      let first : 1 ≤ a = leb-true 1 a parts.1 in
      let last : a ≤ count k = leb-true a (count k) parts.2 in
      let here : passes_at k ≡ true = all_counted passes_at 0 (suc (length e.right)) k q (omega arith) (omega arith) in
      let passed : passes g.place ≡ true = all_counted (λ i. passes (occurrence k i)) 1 (count k) a (sym (by_attribute k) ∙ here) first (omega arith) in
      true≢false (sym passed ∙ ap₂ ◌||◌ g.output g.unset)

  pub gap_answered : (gap : Bool) → gap ≡ not (complete s e) → GapAnswered s e gap
  gap_answered gap q = record { judged = q; found = λ t. found (complete s e) refl (sym q ∙ t); seen = λ g. q ∙ incomplete g (complete s e) refl }
    where
      found : (x : Bool) → complete s e ≡ x → not x ≡ true → Gap s e
      found false w t = gap_found w
      found true w t = absurd (true≢false (sym t))

      incomplete : Gap s e → (x : Bool) → complete s e ≡ x → not x ≡ true
      incomplete g false w = refl
      incomplete g true w = absurd (gap_incomplete g w)

-- ---- by the note

pub gaps_answered : (width : ℕ) (inh syn note : List ℕ) → Small width inh syn → (gap : Bool) → gap ≡ not (complete_note width inh syn note) → GapsAnswered width inh syn note gap
gaps_answered width inh syn note small gap q s e pl nt =
    gap_answered s e gap
    (q ∙ ap not (sym (complete_judged no_header s.counts [] s.carrying [] 0 0 e.offset e.left e.right e.rules e.conditions width inh syn note pl small nt)))
