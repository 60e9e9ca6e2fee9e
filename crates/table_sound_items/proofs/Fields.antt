-- Fields that nothing is wrong with, by their bytes.
use Prim.Native.Nat.{ℕ, ◌+◌, ◌*◌, ◌≤◌, ◌<◌}
use mathlib.Core.Path.{◌≡◌, refl, sym, ◌∙◌, ap}
use mathlib.Core.Bool.{true}
use mathlib.Core.List.{List}
use native.Mathlib.Omega.{arith}
use native.Mathlib.Decide.{ℕ_discrete}
use lib.ListN.{length}
use Rattle.meaning.specs.Limits.{rules_limit, conditions_limit}
use Rattle.meaning.specs.Table.{byte}
use Rattle.table_fields.specs.Field.{Whole, length_at, body_at}
use Rattle.table_fields.proofs.Rest.{body_length, body_byte}
use Rattle.table_fields.proofs.Demands.{holds_met, equal_met, differs_met, at_most_met, below_met, equal_yes, equal_no, below_yes, below_no}
use Rattle.table_rules.specs.Rule.{class_in, in_order_value, four_at, length_of, operand_count, divisor_fits, rule_items, rule_fault, range_fault, at_most_fault, condition_fault}
use Rattle.table_rule_fields.proofs.Sound.{length_is}

-- ---- a field and its body

pub whole_at : (t : List ℕ) (at size n : ℕ) → byte t (at + 1) ≡ 0 → n ≡ byte t (at + 2) → n ≡ size → at + 3 + size ≤ length t → Whole t at size
unfolding length_at
whole_at t at size n z e f l = record { size_is = omega arith; inside = l }

-- ---- rules

pub length_nine : (f : ℕ) → 7 ≤ f → 9 ≡ length_of f
unfolding length_of
length_nine f l = equal_no _ _ _ _ (λ q. omega arith) (equal_no _ _ _ _ (λ q. omega arith) (below_no _ _ _ _ l refl))

pub length_five : (f : ℕ) → f ≡ 1 → 5 ≡ length_of f
unfolding length_of
length_five f e = equal_no _ _ _ _ (λ q. omega arith) (equal_yes _ _ _ _ e refl)

pub length_seven : (f : ℕ) → (f ≡ 1 → ⊥) → f < 7 → 7 ≡ length_of f
unfolding length_of
length_seven f n l = go (ℕ_discrete f 0)
  where
    go : Dec (f ≡ 0) → 7 ≡ length_of f
    go (yes e) = equal_yes _ _ _ _ e refl
    go (no m) = equal_no _ _ _ _ m (equal_no _ _ _ _ n (below_yes _ _ _ _ l refl))

pub operands_inside : (f : ℕ) → f ≤ 8 → 3 + 2 * operand_count f ≤ length_of f
operands_inside f l = (length_is f (length_of f) refl).1

pub rule_none :
    (r width : ℕ) (inh syn note b : List ℕ) (f : ℕ) → f ≡ byte b 2 → r < rules_limit → byte b 2 ≤ 8 → 5 ≤ length b → length b ≡ length_of (byte b 2)
    → divisor_fits f b ≡ true → 0 ≡ rule_items width inh syn note b (operand_count f) → 0 ≡ rule_fault r width inh syn note b
unfolding rule_fault
rule_none r width inh syn note b f e l m n q d u =
    at_most_met _ _ _ _ (omega arith)
    (below_met _ _ _ _ l
    (at_most_met _ _ _ _ m
    (equal_met _ _ _ _ q
    (holds_met _ _ _ (ap (λ (x : ℕ). divisor_fits x b) (sym e) ∙ d) (u ∙ ap (λ (x : ℕ). rule_items width inh syn note b (operand_count x)) e)))))

-- ---- conditions

module _ (c width : ℕ) (inh syn b : List ℕ) (few : c < conditions_limit) where
  pub range_none : length b ≡ 11 → byte b 0 ≡ 0 → 1 ≡ class_in width inh syn b 1 → in_order_value (four_at b 3) (four_at b 7) ≡ true → 0 ≡ condition_fault c width inh syn b
  unfolding condition_fault range_fault
  range_none l z e o =
      at_most_met _ _ _ _ (omega arith)
      (below_met _ _ _ _ few
      (at_most_met _ _ _ _ (omega arith)
      (equal_yes _ _ _ _ z
      (equal_met _ _ _ _ l
      (differs_met _ _ _ _ (λ q. omega arith)
      (differs_met _ _ _ _ (λ q. omega arith)
      (holds_met _ _ _ o refl)))))))

  pub comparison_none :
      1 ≤ byte b 0 → byte b 0 ≤ 2 → length b ≡ 4 * byte b 0 + 1 → 1 ≡ class_in width inh syn b 1 → 1 ≡ class_in width inh syn b 3
      → 0 ≡ condition_fault c width inh syn b
  unfolding condition_fault at_most_fault
  comparison_none l m n x y =
      at_most_met _ _ _ _ (omega arith)
      (below_met _ _ _ _ few
      (at_most_met _ _ _ _ (omega arith)
      (equal_no _ _ _ _ (λ q. omega arith)
      (equal_met _ _ _ _ (omega arith)
      (differs_met _ _ _ _ (λ q. omega arith)
      (differs_met _ _ _ _ (λ q. omega arith)
      (differs_met _ _ _ _ (λ q. omega arith)
      (differs_met _ _ _ _ (λ q. omega arith) refl))))))))

-- ---- the part of a table that is a body

module _ (t : List ℕ) (at size : ℕ) (w : Whole t at size) (part : List ℕ) (e : part ≡ body_at t at size) where
  pub part_long : length part ≡ size
  part_long = ap length e ∙ body_length t at size w.inside

  pub part_first : 0 < size → byte part 0 ≡ byte t (at + 3)
  part_first l = ap (λ (x : List ℕ). byte x 0) e ∙ body_byte t at size 0 l ∙ ap (byte t) {x = at + 3 + 0} {y = at + 3} (omega arith)

  part_third : 2 < size → byte part 2 ≡ byte t (at + 5)
  part_third l = ap (λ (x : List ℕ). byte x 2) e ∙ body_byte t at size 2 l ∙ ap (byte t) {x = at + 3 + 2} {y = at + 5} (omega arith)

  pub part_rule : (f : ℕ) → f ≡ byte t (at + 5) → f ≤ 8 → size ≡ length_of f → 5 ≤ size → (byte part 2 ≤ 8) × (5 ≤ length part) × (length part ≡ length_of (byte part 2))
  part_rule f q l m n =
      let third = part_third (omega arith) in
      let long = part_long in
      (omega arith, omega arith, long ∙ m ∙ ap length_of (q ∙ sym third))
