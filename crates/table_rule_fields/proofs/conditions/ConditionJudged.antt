-- The fault of a condition is the one that 01's table gives.
use Prim.Native.Nat.{ℕ, zero, suc, ◌+◌, ◌*◌, ◌≤◌}
use mathlib.Core.Path.{◌≡◌, refl, sym, ◌∙◌, ap, ap₂}
use mathlib.Core.Bool.{Bool, true, false, ◌&&◌, ◌||◌, cond}
use mathlib.Core.List.{List, [], ◌∷◌}
use native.Mathlib.Omega.{arith}
use lib.Dec.{eqb, leb, ltb}
use lib.Signed.{le_z}
use lib.ListN.{length}
use borrow.Author.Tests.{leb-true, leb-false, le-ltb, lt-ltb, eqb-true, eqb-false}
use Rattle.meaning.specs.Limits.{conditions_limit}
use Rattle.meaning.specs.Base.{all}
use Rattle.meaning.specs.Grammar.{Symbol, Occurrence, Rule, Condition, range, atmost, Counts}
use Rattle.meaning.specs.Table.{byte, constant_at, State, Entry, Header, occurrence_at, offset_of, occurrence_known, is_input, condition_length, reads, lowest_of, judge_field, tag_stands, stage, at_any}
use Rattle.table_fields.specs.Demand.{if_equal, differs, below, holds, equal, at_most}
use Rattle.table_fields.proofs.Rest.{field_of}
use Rattle.table_fields.proofs.Judged.{judge_stands}
use Rattle.table_rules.specs.Rule.{class_in, four_at, in_order_value, range_fault, at_most_fault, condition_fault}
use Rattle.table_rules.specs.Note.{Placed}
use Rattle.table_rules.proofs.ClassDemands.{Classed, unknown, input, output, classed, entry, state}

range_by :
    (v : Bool) {k i : Bool} {a : ℕ} (j : Bool) → Classed k i a
    → lowest_of ((v, 4) ∷ (k && true, 5) ∷ (true, 6) ∷ (i && true, 7) ∷ (true, 8) ∷ (true, 9) ∷ (j, 10) ∷ [])
    ≡ cond v (cond (eqb a 0) 5 (cond (eqb a 2) 7 (cond j 0 10))) 4
range_by false j q = refl
range_by true j unknown = refl
range_by true j output = refl
range_by true false input = refl
range_by true true input = refl

at_most_by :
    (v : Bool) {k i : Bool} {a : ℕ} {m g : Bool} {b : ℕ} → Classed k i a → Classed m g b
    → lowest_of ((v, 4) ∷ (k && (m && true), 5) ∷ (true, 6) ∷ (i && (g && true), 7) ∷ (true, 8) ∷ (true, 9) ∷ (true, 10) ∷ [])
    ≡ cond v (cond (eqb a 0) 5 (cond (eqb b 0) 5 (cond (eqb a 2) 7 (cond (eqb b 2) 7 0)))) 4
at_most_by false p q = refl
at_most_by true unknown q = refl
at_most_by true input unknown = refl
at_most_by true output unknown = refl
at_most_by true input output = refl
at_most_by true output input = refl
at_most_by true output output = refl
at_most_by true input input = refl

-- p "long enough", q "few enough", v "of the right length"
near_by :
    (p q v : Bool) (l : List (Bool × ℕ)) (n : ℕ) → lowest_of ((v, 4) ∷ l) ≡ n
    → lowest_of ((p && q && (false || v), 4) ∷ l) ≡ cond p (cond q n 4) 4
near_by false q v l n e = refl
near_by true false v l n e = refl
near_by true true v l n e = e

far_by :
    (p q v k : Bool) (l : List (Bool × ℕ))
    → lowest_of ((p && q && (true || v), 4) ∷ (false && k, 5) ∷ l) ≡ cond p (cond q 5 4) 4
far_by false q v k l = refl
far_by true false v k l = refl
far_by true true v k l = refl

module _ (h : Header) (cs : List Counts) (os ws : List ℕ) (es : List Entry) (r c o l : ℕ) (xs : List Symbol) (rs : List (Rule Occurrence)) (cds : List (Condition Occurrence)) (width : ℕ) (inh syn : List ℕ) (pl : Placed cs ws l xs width inh syn) (b : List ℕ) where
  abbrev e : Entry
  e = entry h cs os ws es r c o l xs rs cds

  abbrev s : State
  s = state h cs os ws es r c o l xs rs cds

  abbrev kind : ℕ
  kind = byte b 0

  abbrev K : Occurrence → Bool
  K x = occurrence_known s e x

  abbrev I : Occurrence → Bool
  I x = is_input s e x

  class_of : (i : ℕ) → Classed (K (occurrence_at b i)) (I (occurrence_at b i)) (class_in width inh syn b i)
  unfolding class_in
  class_of i = classed h cs os ws es r c o l xs rs cds width inh syn pl (byte b i) (byte b (i + 1))

  abbrev condition_by : Bool → Condition Occurrence
  condition_by x = elim x [
    | true ↦ range (occurrence_at b 1) (constant_at b 3) (constant_at b 7)
    | false ↦ atmost (occurrence_at b 1) (occurrence_at b 3) (offset_of b)
  ]

  abbrev bounds_by : Condition Occurrence → Bool
  bounds_by x = elim x [ range p m n ↦ le_z m n | atmost p q n ↦ true ]

  abbrev rest : Bool → List (Bool × ℕ)
  rest x = (true, 6) ∷ (all I (reads (condition_by x)), 7) ∷ (true, 8) ∷ (true, 9) ∷ (bounds_by (condition_by x), 10) ∷ []

  -- w is "the kind is above 2", u "it is at most 2", x "it is 0", v "the length is right"
  abbrev whole : Bool → Bool → Bool → Bool → ℕ
  whole w u x v = lowest_of ((leb 1 (length b) && ltb c conditions_limit && (w || v), 4) ∷ (u && all K (reads (condition_by x)), 5) ∷ rest x)

  abbrev fault : Bool → Bool → ℕ
  fault u x = cond (leb 1 (length b)) (cond (ltb c conditions_limit) (cond u (cond x (range_fault width inh syn b) (at_most_fault (4 * kind + 1) width inh syn b)) 5) 4) 4

  range_judged : lowest_of ((eqb (length b) 11, 4) ∷ (all K (reads (condition_by true)), 5) ∷ rest true) ≡ range_fault width inh syn b
  unfolding range_fault equal differs holds in_order_value four_at
  range_judged = range_by (eqb (length b) 11) (in_order_value (four_at b 3) (four_at b 7)) (class_of 1)

  at_most_judged : (n : ℕ) → lowest_of ((eqb (length b) n, 4) ∷ (all K (reads (condition_by false)), 5) ∷ rest false) ≡ at_most_fault n width inh syn b
  unfolding at_most_fault equal differs
  at_most_judged n = at_most_by (eqb (length b) n) (class_of 1) (class_of 3)

  -- the length of a comparison by its kind
  compared_length : (k : ℕ) → 1 ≤ k → k ≤ 2 → condition_length k ≡ 4 * k + 1
  compared_length zero l m = absurd (omega arith)
  compared_length (suc zero) l m = refl
  compared_length (suc (suc zero)) l m = refl
  compared_length (suc (suc (suc k))) l m = absurd (omega arith)

  whole_same : {w w' u u' x x' v v' : Bool} → w ≡ w' → u ≡ u' → x ≡ x' → v ≡ v' → whole w u x v ≡ whole w' u' x' v'
  whole_same p q r t = cc

  by_kind : (u x : Bool) → leb kind 2 ≡ u → eqb kind 0 ≡ x → whole (ltb 2 kind) (leb kind 2) (eqb kind 0) (eqb (length b) (condition_length kind)) ≡ fault (leb kind 2) (eqb kind 0)
  by_kind true true w z =
      let k : kind ≡ 0 = eqb-true kind 0 z in
      whole_same (le-ltb 2 kind (omega arith)) w z (ap (λ (n : ℕ). eqb (length b) (condition_length n)) k)
      ∙ near_by (leb 1 (length b)) (ltb c conditions_limit) (eqb (length b) 11) ((all K (reads (condition_by true)), 5) ∷ rest true) (range_fault width inh syn b) range_judged
      ∙ sym (ap₂ fault w z)
  by_kind true false w z =
      let few : kind ≤ 2 = leb-true kind 2 w in
      let k = let n = eqb-false kind 0 z in compared_length kind (omega arith) few in
      whole_same (le-ltb 2 kind (omega arith)) w z (ap (λ (n : ℕ). eqb (length b) n) k)
      ∙ near_by (leb 1 (length b)) (ltb c conditions_limit) (eqb (length b) (4 * kind + 1)) ((all K (reads (condition_by false)), 5) ∷ rest false) (at_most_fault (4 * kind + 1) width inh syn b) (at_most_judged (4 * kind + 1))
      ∙ sym (ap₂ fault w z)
  by_kind false x w z =
      ap₂ (λ p u. whole p u (eqb kind 0) (eqb (length b) (condition_length kind))) (lt-ltb 2 kind (leb-false kind 2 w)) w
      ∙ far_by (leb 1 (length b)) (ltb c conditions_limit) (eqb (length b) (condition_length kind)) (all K (reads (condition_by (eqb kind 0)))) (rest (eqb kind 0))
      ∙ sym (ap (λ u. fault u (eqb kind 0)) w)

  pub condition_judged : (at : ℕ) → stage s ≡ at_any → judge_field s (field_of at 5 b) ≡ condition_fault c width inh syn b
  unfolding condition_fault at_most below if_equal
  condition_judged at q = judge_stands s at 5 b (ap (λ x. tag_stands x 5) q) ∙ by_kind (leb kind 2) (eqb kind 0) refl refl
