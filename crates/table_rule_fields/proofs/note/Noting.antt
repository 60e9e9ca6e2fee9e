-- The note of the occurrences that a production's rules set: what is in it by its bits, and how it grows.
use Prim.Native.Nat.{ℕ, suc, ◌-◌, ◌^◌, ◌≤◌, ◌<◌}
use mathlib.Core.Path.{◌≡◌, refl, sym, ◌∙◌, ap, ap₂, subst}
use mathlib.Core.Bool.{Bool, true, false, ◌&&◌, ◌||◌, true≢false}
use mathlib.Core.List.{List, [], ◌∷◌}
use mathlib.Core.Logic.{◌⊎◌, inl, inr, ⊎_elim}
use native.Mathlib.Omega.{arith}
use native.Mathlib.Decide.{ℕ_discrete}
use lib.Bits.{bit_or}
use lib.Dec.{eqb, leb, ltb}
use lib.ListN.{get_or, length, set, replicate, length-set, length-replicate}
use lib.Seq.{get_or-set_same, get_or-set_other}
use borrow.Author.Tests.{le-leb, lt-ltb, leb-true, ltb-true, eq-eqb, ne_eqb, eqb-true}
use Rattle.meaning.specs.Limits.{attributes_limit, positions_limit}
use Rattle.meaning.specs.Grammar.{Occurrence, Rule}
use Rattle.meaning.specs.Table.{byte, rule_of, same_occurrence}
use Rattle.table_fields.specs.Demand.{if_equal}
use Rattle.table_fields.proofs.Demands.{equal_no}
use Rattle.table_rules.specs.Rule.{Small, bit, rule_fault}
use Rattle.table_rules.specs.Note.{occurrence, is_set, is_noted, Notes, rules_after}
use Rattle.table_rule_fields.proofs.note.Bits.{bit_set, bit_zero}
use Rattle.table_rules.proofs.Laws.{ap3, rule_fine}
use Rattle.theory_base.specs.Members.{replicate_at}

-- ---- occurrences that a note has room for

pub record Near (o : Occurrence) : Type 0 where
  pub place : o.position < positions_limit
  pub first : 1 ≤ o.attribute
  pub last : o.attribute ≤ attributes_limit

near_or_not : (o : Occurrence) → Near o ⊎ (Near o → ⊥)
near_or_not o = go (ltb o.position positions_limit) (leb 1 o.attribute) (leb o.attribute attributes_limit) refl refl refl
  where
    go : (x y z : Bool) → ltb o.position positions_limit ≡ x → leb 1 o.attribute ≡ y → leb o.attribute attributes_limit ≡ z → Near o ⊎ (Near o → ⊥)
    go true true true e f g = inl (record { place = ltb-true o.position positions_limit e; first = leb-true 1 o.attribute f; last = leb-true o.attribute attributes_limit g })
    go false y z e f g = inr (λ n. absurd (true≢false (sym (lt-ltb o.position positions_limit n.place) ∙ e)))
    go true false z e f g = inr (λ n. absurd (true≢false (sym (le-leb 1 o.attribute n.first) ∙ f)))
    go true true false e f g = inr (λ n. absurd (true≢false (sym (le-leb o.attribute attributes_limit n.last) ∙ g)))

module _ (note : List ℕ) (o : Occurrence) where
  pub noted_near : Near o → is_noted note o ≡ bit (get_or note o.position 0) (o.attribute - 1)
  unfolding is_noted
  noted_near n =
      ap3
      (λ x y z. x && (y && z) && bit (get_or note o.position 0) (o.attribute - 1))
      (lt-ltb o.position positions_limit n.place) (le-leb 1 o.attribute n.first) (le-leb o.attribute attributes_limit n.last)

  noted_far : (Near o → ⊥) → is_noted note o ≡ false
  unfolding is_noted
  noted_far n = go (ltb o.position positions_limit) (leb 1 o.attribute) (leb o.attribute attributes_limit) refl refl refl
    where
      go : (x y z : Bool) → ltb o.position positions_limit ≡ x → leb 1 o.attribute ≡ y → leb o.attribute attributes_limit ≡ z → x && (y && z) && bit (get_or note o.position 0) (o.attribute - 1) ≡ false
      go false y z e f g = refl
      go true false z e f g = refl
      go true true false e f g = refl
      go true true true e f g = absurd (n (record { place = ltb-true o.position positions_limit e; first = leb-true 1 o.attribute f; last = leb-true o.attribute attributes_limit g }))

-- another occurrence than one in reach
same_far : (u o : Occurrence) → Near u → (Near o → ⊥) → same_occurrence u o ≡ false
same_far u o n f = go (eqb u.position o.position) (eqb u.attribute o.attribute) refl refl
  where
    go : (x y : Bool) → eqb u.position o.position ≡ x → eqb u.attribute o.attribute ≡ y → x && y ≡ false
    go false y p q = refl
    go true false p q = refl
    go true true p q =
        let k : u.position ≡ o.position = eqb-true u.position o.position p in
        let a : u.attribute ≡ o.attribute = eqb-true u.attribute o.attribute q in
        absurd (f (record { place = omega (arith, n.place); first = omega (arith, n.first); last = omega (arith, n.last) }))

-- ---- by bits

pub notes_bit : (note : List ℕ) (rs : List (Rule Occurrence)) → Notes note rs → (k a : ℕ) → k < positions_limit → a < attributes_limit → bit (get_or note k 0) a ≡ is_set rs (occurrence k (suc a))
notes_bit note rs n k a p q =
    ap (bit (get_or note k 0)) {x = a} {y = suc a - 1} (omega arith)
    ∙ sym (noted_near note (occurrence k (suc a)) (record { place = p; first = omega arith; last = omega arith }))
    ∙ n.holds (occurrence k (suc a))

-- another note with the same bits
pub notes_same :
    (note note' : List ℕ) (rs : List (Rule Occurrence)) → length note' ≡ positions_limit → ((k a : ℕ) → k < positions_limit → 1 ≤ a → a ≤ attributes_limit → bit (get_or note' k 0) (a - 1) ≡ bit (get_or note k 0) (a - 1))
    → Notes note rs → Notes note' rs
notes_same note note' rs l same nt =
    record {
      kept = l;
      holds = λ o.
          ⊎_elim
          (λ n. noted_near note' o n ∙ same o.position o.attribute n.place n.first n.last ∙ sym (noted_near note o n) ∙ nt.holds o)
          (λ f. noted_far note' o f ∙ sym (noted_far note o f) ∙ nt.holds o)
          (near_or_not o);
    }

-- ---- the note of no rule

pub notes_none : (note : List ℕ) → length note ≡ positions_limit → ((k : ℕ) → get_or note k 0 ≡ 0) → Notes note []
notes_none note l z =
    record {
      kept = l;
      holds = λ o. ⊎_elim (λ n. noted_near note o n ∙ ap (λ (x : ℕ). bit x (o.attribute - 1)) (z o.position) ∙ bit_zero (o.attribute - 1)) (noted_far note o) (near_or_not o);
    }

pub notes_begin : Notes (replicate positions_limit 0) []
notes_begin = notes_none (replicate positions_limit 0) (length-replicate {A = ℕ} positions_limit 0) (λ k. replicate_at {A = ℕ} positions_limit k 0)

-- ---- a rule more

pub less_one : (a i : ℕ) → 1 ≤ a → 1 ≤ i → eqb (a - 1) (i - 1) ≡ eqb a i
less_one a i l m = go (ℕ_discrete a i)
  where
    go : Dec (a ≡ i) → eqb (a - 1) (i - 1) ≡ eqb a i
    go (yes e) = eq-eqb (a - 1) (i - 1) (omega arith) ∙ sym (eq-eqb a i e)
    go (no n) = ne_eqb (a - 1) (i - 1) (λ q. n (omega arith)) ∙ sym (ne_eqb a i n)

module _ (note : List ℕ) (rs : List (Rule Occurrence)) (r : Rule Occurrence) (nt : Notes note rs) (near : Near r.target) where
  abbrev p : ℕ
  p = r.target.position

  abbrev a : ℕ
  a = r.target.attribute

  abbrev note' : List ℕ
  note' = set note p (bit_or (get_or note p 0) (2 ^ (a - 1)))

  more_near : (o : Occurrence) → Near o → is_noted note' o ≡ is_set (r ∷ rs) o
  more_near o n = noted_near note' o n ∙ go (ℕ_discrete o.position p)
    where
      old : bit (get_or note o.position 0) (o.attribute - 1) ≡ is_set rs o
      old = sym (noted_near note o n) ∙ nt.holds o

      go : Dec (o.position ≡ p) → bit (get_or note' o.position 0) (o.attribute - 1) ≡ is_set (r ∷ rs) o
      go (yes e) =
          ap (λ (j : ℕ). bit (get_or note' j 0) (o.attribute - 1)) e
          ∙ ap (λ (m : ℕ). bit m (o.attribute - 1)) (get_or-set_same note p (bit_or (get_or note p 0) (2 ^ (a - 1))) 0 (omega (arith, nt.kept, near.place)))
          ∙ bit_set (get_or note p 0) (a - 1) (o.attribute - 1)
          ∙ ap₂ ◌||◌ (less_one a o.attribute near.first n.first) (ap (λ (j : ℕ). bit (get_or note j 0) (o.attribute - 1)) (sym e) ∙ old)
          ∙ ap (λ x. (x && eqb a o.attribute) || is_set rs o) (sym (eq-eqb p o.position (sym e)))
      go (no m) =
          ap (λ (x : ℕ). bit x (o.attribute - 1)) (get_or-set_other note p o.position (bit_or (get_or note p 0) (2 ^ (a - 1))) 0 m)
          ∙ old
          ∙ ap (λ x. (x && eqb a o.attribute) || is_set rs o) (sym (ne_eqb p o.position (λ q. m (sym q))))

  more_far : (o : Occurrence) → (Near o → ⊥) → is_noted note' o ≡ is_set (r ∷ rs) o
  more_far o f = noted_far note' o f ∙ sym (ap₂ ◌||◌ (same_far r.target o near f) (sym (nt.holds o) ∙ noted_far note o f))

  pub notes_more : Notes note' (r ∷ rs)
  notes_more =
      record {
        kept = length-set note p (bit_or (get_or note p 0) (2 ^ (a - 1))) ∙ nt.kept;
        holds = λ o. ⊎_elim (more_near o) (more_far o) (near_or_not o);
      }

-- ---- a rule field

pub notes_refused : (note b : List ℕ) (number : ℕ) → (number ≡ 0 → ⊥) → (rs : List (Rule Occurrence)) → Notes note rs → Notes note (rules_after number b rs)
unfolding rules_after
notes_refused note b number n rs nt = subst (Notes note) (equal_no number 0 (rule_of b ∷ rs) rs n refl) nt

module _ (r width : ℕ) (inh syn note b : List ℕ) (small : Small width inh syn) (number : ℕ) (is : number ≡ rule_fault r width inh syn note b) (fine : number ≡ 0) where
  pub taken_target : (3 ≤ length b) × (byte b 0 < positions_limit) × (1 ≤ byte b 1) × (byte b 1 ≤ attributes_limit)
  taken_target = rule_fine r width inh syn note b small (sym is ∙ fine)

  pub notes_taken :
      (k a : ℕ) (note' : List ℕ) → k ≡ byte b 0 → a ≡ byte b 1 → note' ≡ set note k (bit_or (get_or note k 0) (2 ^ (a - 1)))
      → (rs : List (Rule Occurrence)) → Notes note rs → Notes note' (rules_after 0 b rs)
  unfolding rules_after if_equal
  notes_taken k a note' x y e rs nt =
      let t = taken_target in
      subst
      (λ (m : List ℕ). Notes m (rule_of b ∷ rs))
      (sym (e ∙ ap₂ (λ (u v : ℕ). set note u (bit_or (get_or note u 0) (2 ^ (v - 1)))) x y))
      (notes_more note rs (rule_of b) nt (record { place = t.1; first = t.2; last = t.3 }))

-- the rules after a field that is not refused
pub notes_fine : (note b : List ℕ) (number : ℕ) (rs : List (Rule Occurrence)) → number ≡ 0 → Notes note (rules_after number b rs) → Notes note (rule_of b ∷ rs)
unfolding rules_after if_equal
notes_fine note b number rs z nt = subst (λ (n : ℕ). Notes note (rules_after n b rs)) z nt
