-- A rule that nothing is wrong with: its target an output without a rule, its operands inputs below it.
use Prim.Native.Nat.{ℕ, ◌+◌, ◌-◌, ◌*◌, ◌≤◌, ◌<◌}
use mathlib.Core.Path.{◌≡◌, refl, sym, ◌∙◌, ap, ap₂}
use mathlib.Core.Bool.{Bool, true, false, cond}
use mathlib.Core.List.{List}
use native.Mathlib.Omega.{arith}
use lib.Dec.{eqb, ltb}
use lib.ListN.{get_or}
use Rattle.meaning.specs.Limits.{attributes_limit, positions_limit}
use Rattle.meaning.specs.Table.{byte}
use Rattle.table_fields.specs.Demand.{if_equal, if_below, differs}
use Rattle.table_fields.proofs.Demands.{lacks_met, below_met, equal_yes, equal_no, below_yes, below_no}
use Rattle.table_rules.specs.Rule.{Small, bit, class_at, class_in, length_of, operand_count, operand_class, operand_place, OperandsFit, class_fault, rule_order, rule_items}
use Rattle.table_rules.proofs.Laws.{ap3, else_second, class_inside, class_first, class_last}
use Rattle.table_fields.proofs.Cases.{nonzero}

-- ---- numbers by the function

-- a rule's body has room for its operands
operands_inside : (f : ℕ) → 3 + 2 * operand_count f ≤ length_of f
unfolding length_of operand_count if_equal if_below
operands_inside f = by (eqb f 0) (eqb f 1) (ltb f 7)
  where
    by : (x y z : Bool) → 3 + 2 * cond x 0 (cond y 1 (cond z 2 1)) ≤ cond x 7 (cond y 5 (cond z 7 9))
    by true y z = omega arith
    by false true z = omega arith
    by false false true = omega arith
    by false false false = omega arith

pub length_is : (f r : ℕ) → r ≡ length_of f → (r ≡ length_of f) × (3 + 2 * operand_count f ≤ r)
length_is f r e = (e, omega (arith, e, operands_inside f))

-- ---- classes

module _ (width : ℕ) (inh syn : List ℕ) (p a : ℕ) (inside : p ≤ width) where
  pub output_left : p ≡ 0 → get_or inh p 0 < a → a ≤ get_or inh p 0 + get_or syn p 0 → 2 ≡ class_at width inh syn p a
  unfolding class_at
  output_left e l m = below_no _ _ _ _ inside (below_no _ _ _ _ (omega arith) (below_no _ _ _ _ m (equal_yes _ _ _ _ e (below_yes _ _ _ _ l refl))))

  pub output_right : (p ≡ 0 → ⊥) → 1 ≤ a → a ≤ get_or inh p 0 → 2 ≡ class_at width inh syn p a
  unfolding class_at
  output_right n l m = below_no _ _ _ _ inside (below_no _ _ _ _ l (below_no _ _ _ _ (omega arith) (equal_no _ _ _ _ n (below_no _ _ _ _ m refl))))

  pub input_left : p ≡ 0 → 1 ≤ a → a ≤ get_or inh p 0 → 1 ≡ class_at width inh syn p a
  unfolding class_at
  input_left e l m = below_no _ _ _ _ inside (below_no _ _ _ _ l (below_no _ _ _ _ (omega arith) (equal_yes _ _ _ _ e (below_no _ _ _ _ m refl))))

  pub input_right : (p ≡ 0 → ⊥) → get_or inh p 0 < a → a ≤ get_or inh p 0 + get_or syn p 0 → 1 ≡ class_at width inh syn p a
  unfolding class_at
  input_right n l m = below_no _ _ _ _ inside (below_no _ _ _ _ (omega arith) (below_no _ _ _ _ m (equal_no _ _ _ _ n (below_yes _ _ _ _ l refl))))

-- where an output can be
pub output_near : (width : ℕ) (inh syn : List ℕ) (p a : ℕ) → Small width inh syn → 2 ≡ class_at width inh syn p a → (p < positions_limit) × (p ≤ width) × (1 ≤ a) × (a ≤ attributes_limit)
output_near width inh syn p a small e =
    let known : class_at width inh syn p a ≡ 0 → ⊥ = λ q. nonzero 1 (e ∙ q) in
    let inside : p ≤ width = class_inside width inh syn p a known in
    (omega (arith, small.0), inside, class_first width inh syn p a known, omega (arith, class_last width inh syn p a known, small.1 p inside))

-- the class of two bytes by their values
pub class_bytes : (width : ℕ) (inh syn b : List ℕ) (at p a : ℕ) {n : ℕ} → p ≡ byte b at → a ≡ byte b (at + 1) → n ≡ class_at width inh syn p a → n ≡ class_in width inh syn b at
unfolding class_in
class_bytes width inh syn b at p a e f q = q ∙ ap₂ (class_at width inh syn) e f

-- and the note of them
pub note_bytes : (note b : List ℕ) (p a : ℕ) {r : Bool} → p ≡ byte b 0 → a ≡ byte b 1 → r ≡ bit (get_or note p 0) (a - 1) → r ≡ false → bit (get_or note (byte b 0) 0) (byte b 1 - 1) ≡ false
note_bytes note b p a e f q n = sym (ap₂ (λ (x y : ℕ). bit (get_or note x 0) (y - 1)) e f) ∙ sym q ∙ n

-- ---- operands

module _ (limit width : ℕ) (inh syn b : List ℕ) (n : ℕ) (some : 1 ≤ limit) where
  past_class : (k : ℕ) → n ≤ k → 1 ≡ operand_class width inh syn b n k
  unfolding operand_class
  past_class k l = below_no _ _ _ _ l refl

  past_place : (k : ℕ) → n ≤ k → operand_place b n k < limit
  unfolding operand_place
  past_place k l = let e : 0 ≡ operand_place b n k = below_no _ _ _ _ l refl in omega arith

  given_class : (k at : ℕ) → k < n → at ≡ 3 + 2 * k → 1 ≡ class_in width inh syn b at → 1 ≡ operand_class width inh syn b n k
  unfolding operand_class
  given_class k at l e q = below_yes _ _ _ _ l (q ∙ ap (class_in width inh syn b) e)

  given_place : (k at : ℕ) → k < n → at ≡ 3 + 2 * k → byte b at < limit → operand_place b n k < limit
  unfolding operand_place
  given_place k at l e q = let d : byte b at ≡ operand_place b n k = below_yes _ _ _ _ l (ap (byte b) e) in omega arith

  pub fit_none : n ≡ 0 → OperandsFit limit width inh syn b n
  fit_none e =
      record {
        first = past_class 0 (omega arith);
        second = past_class 1 (omega arith);
        first_place = past_place 0 (omega arith);
        second_place = past_place 1 (omega arith);
      }

  module _ (one : (1 ≡ class_in width inh syn b 3) × (byte b 3 < limit)) where
    pub fit_one : n ≡ 1 → OperandsFit limit width inh syn b n
    fit_one e =
        record {
          first = given_class 0 3 (omega arith) refl one.0;
          second = past_class 1 (omega arith);
          first_place = given_place 0 3 (omega arith) refl one.1;
          second_place = past_place 1 (omega arith);
        }

    pub fit_two : 1 < n → (1 ≡ class_in width inh syn b 5) × (byte b 5 < limit) → OperandsFit limit width inh syn b n
    fit_two l two =
        record {
          first = given_class 0 3 (omega arith) refl one.0;
          second = given_class 1 5 l refl two.0;
          first_place = given_place 0 3 (omega arith) refl one.1;
          second_place = given_place 1 5 l refl two.1;
        }

-- ---- the whole

fault_none : (t x y : ℕ) → 2 ≡ t → 1 ≡ x → 1 ≡ y → 0 ≡ class_fault t x y
unfolding class_fault differs
fault_none t x y e f g = ap3 class_fault {x = 2} {y = 1} {z = 1} e f g

module _ (limit width : ℕ) (inh syn note b : List ℕ) (n : ℕ) (target : 2 ≡ class_in width inh syn b 0) (free : bit (get_or note (byte b 0) 0) (byte b 1 - 1) ≡ false) (fit : OperandsFit limit width inh syn b n) where
  sound_by : 0 ≡ rule_order note n b → 0 ≡ rule_items width inh syn note b n
  unfolding rule_items
  sound_by q = else_second _ _ 0 (fault_none _ _ _ target fit.first fit.second) refl q

  pub sound_left : byte b 0 ≡ 0 → 0 ≡ rule_items width inh syn note b n
  unfolding rule_order
  sound_left e = sound_by (lacks_met _ _ _ free (equal_yes _ _ _ _ e refl))

  pub sound_right : (byte b 0 ≡ 0 → ⊥) → limit ≡ byte b 0 → 0 ≡ rule_items width inh syn note b n
  unfolding rule_order
  sound_right e l =
      let x : operand_place b n 0 < byte b 0 = omega (arith, fit.first_place) in
      let y : operand_place b n 1 < byte b 0 = omega (arith, fit.second_place) in
      sound_by (lacks_met _ _ _ free (equal_no _ _ _ _ e (below_met _ _ _ _ x (below_met _ _ _ _ y refl))))
